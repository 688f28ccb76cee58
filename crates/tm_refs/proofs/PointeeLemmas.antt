-- The pointees of a world's references are types over the world, and have a layout where they are judged.
use Rattle.std.proofs.Common.{◌≡◌, ℕ, zero, suc, ◌<◌, refl, sym, ap, ◌∙◌, subst, true, List, [], ◌∷◌, ◌++◌, length, Option, Some, None, slice_get, arith}
use Rattle.std.specs.Prelude.{nat_lt}
use Rattle.std.specs.List.{Contains, list_all}
use Rattle.std.proofs.lemmas.Bool.{and_from}
use Rattle.std.proofs.lemmas.Bool.Decides.{nat_tests}
use Rattle.std.proofs.lemmas.Option.{slice_get_within}
use Rattle.tm_base.specs.declared.cell.RefId.{RefId}
use Rattle.tm_base.specs.declared.definition.RefRow.{RefRow}
use Rattle.tm_base.specs.declared.ground.Ground.{out-Ground, Ref}
use Rattle.tm_base.specs.declared.ground.Ground.TheVariants.{outs-Ref}
use Rattle.tm_base.specs.declared.world.World.{World}
use Rattle.tm_base.specs.Expanded.{expanded_within, level}
use Rattle.tm_base.specs.Parts.{some_part, is_whole}
use Rattle.tm_base.specs.Reaches.{ChainIn, Enters, IsJudged, parts_within, pointees_within, row_pointee}
use Rattle.tm_base.specs.Tables.{Tables, OnRows, expanded_in}
use Rattle.tm_base.specs.Whole.{is_head_in_form, is_type_over, written_types}
use Rattle.tm_base.specs.Worlds.{IsTypeOver, tables_of}
use Rattle.tm_layout.proofs.OverLemmas.{reached-over}
use Rattle.tm_base.proofs.HeldLemmas.{judged-laid_out}
use Rattle.tm_layout.specs.LaidOut.{IsLaidOut}

module _ (world : World) (r : RefId) (row : RefRow) (at : slice_get world.refs r.0 ≡ Some row) where
  abbrev tables : Tables
  tables = tables_of world

  written : written_types (Ref r) ≡ Ref r ∷ []
  unfolding written_types
  written = refl

  formed : list_all (λ h. is_head_in_form (length world.named) (length world.refs) (out-Ground h)) (written_types (Ref r)) ≡ true
  formed =
      ap (list_all (λ h. is_head_in_form (length world.named) (length world.refs) (out-Ground h))) written
      ∙ and_from _ true (ap (is_head_in_form (length world.named) (length world.refs)) (outs-Ref r) ∙ below r.0 (length world.refs) (slice_get_within world.refs r.0 row at)) refl where
        below : (n m : ℕ) → n < m → nat_lt n m ≡ true
        below n m h = grind (arith, nat_tests)

  whole : is_whole (expanded_in tables (Ref r)) ≡ true
  unfolding some_part expanded_within
  whole = ap (λ x. is_whole (level (expanded_within tables.profile 63 tables.defs tables.named) tables.profile tables.defs tables.named x)) (outs-Ref r)

  reference-over : IsTypeOver tables (Ref r)
  unfolding is_type_over
  reference-over = and_from _ _ formed whole

  enters : Enters tables (Ref r) row.pointee
  enters =
      subst (λ x. Contains (parts_within tables.named x ++ pointees_within tables.refs x) row.pointee) (sym (outs-Ref r))
      (subst (λ found. Contains ([] ++ row_pointee found) row.pointee) (sym at) (zero, omega arith, refl))

  -- a pointee is a type over the world
  pub pointee-over : IsTypeOver tables row.pointee
  unfolding ChainIn
  pointee-over = reached-over world (Ref r) row.pointee reference-over (suc zero, (row.pointee, enters, refl))

  -- a judged one has a layout
  pub pointee-laid_out : IsJudged tables row.pointee → IsLaidOut tables row.pointee
  pointee-laid_out judged = record { over = pointee-over; sound = judged-laid_out (tables_of world) row.pointee pointee-over judged }

-- a fact of two rows is one of what the numbers name
pub OnRows-gives : (r t : Option RefRow) (source target : RefRow) (P : RefRow → RefRow → Type 0) → r ≡ Some source → t ≡ Some target → OnRows r t P → P source target
OnRows-gives r t source target P at_r at_t h = subst (λ x. OnRows (Some source) x P) at_t (subst (λ x. OnRows x t P) at_r h)

pub OnRows-of : (r t : Option RefRow) (source target : RefRow) (P : RefRow → RefRow → Type 0) → r ≡ Some source → t ≡ Some target → P source target → OnRows r t P
OnRows-of r t source target P at_r at_t h = subst (λ x. OnRows x t P) (sym at_r) (subst (λ x. OnRows (Some source) x P) (sym at_t) h)

-- both numbers name rows
pub OnRows-rows : (r t : Option RefRow) (P : RefRow → RefRow → Type 0) → OnRows r t P → (source : RefRow) × (target : RefRow) × (r ≡ Some source) × (t ≡ Some target) × P source target
OnRows-rows (Some source) (Some target) P h = (source, target, refl, refl, h)
OnRows-rows (Some source) None P h = absurd h
OnRows-rows None t P h = absurd h

pub rows-below : (refs : List RefRow) (r t : ℕ) (P : RefRow → RefRow → Type 0) → OnRows (slice_get refs r) (slice_get refs t) P → (r < length refs) × (t < length refs)
rows-below refs r t P h =
    let (source, target, at_r, at_t, _) = OnRows-rows (slice_get refs r) (slice_get refs t) P h in
    (slice_get_within refs r source at_r, slice_get_within refs t target at_t)
