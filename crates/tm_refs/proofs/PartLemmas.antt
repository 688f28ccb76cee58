-- Which parts of a type over a world are types over it too.
use Rattle.std.proofs.Common.{◌≡◌, ℕ, zero, suc, ◌<◌, refl, sym, ◌∙◌, ap, subst, Bool, true, List, [], ◌∷◌, ◌++◌, length, Some, slice_get, arith}
use Rattle.std.specs.Prelude.{nat_lt}
use Rattle.std.specs.List.{Contains, flat_map, list_all}
use Rattle.std.proofs.lemmas.Bool.{and_parts}
use Rattle.std.proofs.lemmas.Bool.Decides.{nat_tests}
use Rattle.std.proofs.lemmas.List.Elements.{Contains-append_left, Contains-append_right}
use Rattle.tm_base.specs.declared.cell.RefId.{RefId}
use Rattle.tm_base.specs.declared.definition.NamedRow.{NamedRow}
use Rattle.tm_base.specs.declared.ground.Ground.{Ground, out-Ground, Prim, Never, Unit as the_unit, Tuple', Array', Named, NonZero, Wrap', Ref}
use Rattle.tm_base.specs.declared.ground.Ground.TheOpen.{Ground-F}
use Rattle.tm_base.specs.declared.ground.Ground.TheVariants as ground_is
use Rattle.tm_base.specs.declared.ground.NamedId.{NamedId}
use Rattle.tm_base.specs.declared.ground.Wrapper.{Wrapper}
use Rattle.tm_base.specs.declared.ground.Wrapper.TheVariants as wrapper
use Rattle.tm_base.specs.declared.world.World.{World}
use Rattle.tm_base.specs.Parts.{is_whole}
use Rattle.tm_base.specs.Reaches.{ChainIn, argument_of, parts_within, pointees_within, row_parts}
use Rattle.tm_base.specs.Tables.{Tables, expanded_in}
use Rattle.tm_base.specs.Whole.{is_head_in_form, is_type_over, written_types}
use Rattle.tm_base.specs.Worlds.{IsTypeOver, tables_of}
use Rattle.tm_layout.specs.Made.{EachIs}
use Rattle.tm_layout.proofs.OverLemmas.{reached-over}

less : (a b : ℕ) → nat_lt a b ≡ true → a < b
less a b h = grind (arith, nat_tests)

-- a type is the first of those that are written in it
written-itself : (p : Ground → Bool) (g : Ground) → list_all p (written_types g) ≡ true → p g ≡ true
unfolding written_types
written-itself p (Tuple' shape row) h = (and_parts (p (Tuple' shape row)) _ h).0
written-itself p (Array' shape row n) h = (and_parts (p (Array' shape row n)) _ h).0
written-itself p (Wrap' w shape row) h = (and_parts (p (Wrap' w shape row)) _ h).0
written-itself p (Prim q) h = (and_parts (p (Prim q)) true h).0
written-itself p Never h = (and_parts (p Never) true h).0
written-itself p the_unit h = (and_parts (p the_unit) true h).0
written-itself p (Named id) h = (and_parts (p (Named id)) true h).0
written-itself p (NonZero q) h = (and_parts (p (NonZero q)) true h).0
written-itself p (Ref r) h = (and_parts (p (Ref r)) true h).0

module _ (world : World) where
  abbrev tables : Tables
  tables = tables_of world

  part-over : (g h : Ground) (y : Ground-F Ground) → out-Ground g ≡ y → IsTypeOver tables g → Contains (parts_within tables.named y) h → IsTypeOver tables h
  unfolding ChainIn
  part-over g h y e over at =
      reached-over world g h over (
        suc zero,
        (
          h,
          subst (λ z. Contains (parts_within tables.named z ++ pointees_within tables.refs z) h) (sym e)
              (Contains-append_left (parts_within tables.named y) (pointees_within tables.refs y) h at),
          refl,
        ),
      )

  contained : (gs : List Ground) (k : ℕ) (h : Ground) → slice_get gs k ≡ Some h → Contains gs h
  contained [] k h e = cc
  contained (g ∷ gs) zero h e = let same : g ≡ h = cc in (zero, omega arith, same)
  contained (g ∷ gs) (suc k) h e = let (j, below, at) = contained gs k h e in (suc j, omega arith, at)

  contained-flat : (types : List (List Ground)) (v f : ℕ) (gs : List Ground) (h : Ground) → slice_get types v ≡ Some gs → slice_get gs f ≡ Some h → Contains (flat_map (λ ts. ts) types) h
  contained-flat [] v f gs h e k = cc
  contained-flat (ts ∷ types) zero f gs h e k =
      let same : ts ≡ gs = cc in
      Contains-append_left ts (flat_map (λ us. us) types) h (subst (λ (us : List Ground). Contains us h) (sym same) (contained gs f h k))
  contained-flat (ts ∷ types) (suc v) f gs h e k = Contains-append_right ts (flat_map (λ us. us) types) h (contained-flat types v f gs h e k)

  pub over-Tuple : (g : Ground) (gs : List Ground) → IsTypeOver tables g → out-Ground g ≡ Ground-F.Tuple gs → EachIs (IsTypeOver tables) gs
  over-Tuple g gs over e k h at = part-over g h (Ground-F.Tuple gs) e over (contained gs k h at)

  pub over-Array : (g element : Ground) (n : ℕ) → IsTypeOver tables g → out-Ground g ≡ Ground-F.Array element n → IsTypeOver tables element
  over-Array g element n over e = part-over g element (Ground-F.Array element n) e over (zero, omega arith, refl)

  argument : (w : Wrapper) (h : Ground) → (w ≡ wrapper.PhantomData → ⊥) → Contains (argument_of w h) h
  argument wrapper.PhantomData h other = absurd (other refl)
  argument w h other = (zero, omega arith, refl)

  pub over-Wrap : (g h : Ground) (w : Wrapper) → (w ≡ wrapper.PhantomData → ⊥) → IsTypeOver tables g → out-Ground g ≡ Ground-F.Wrap w h → IsTypeOver tables h
  over-Wrap g h w other over e = part-over g h (Ground-F.Wrap w h) e over (argument w h other)

  pub over-row : (id : NamedId) (row : NamedRow) → IsTypeOver tables (Named id) → slice_get tables.named id.0 ≡ Some row → EachIs (EachIs (IsTypeOver tables)) row.types
  over-row id row over at v gs at_v f h at_f =
      part-over (Named id) h (Ground-F.Named id) (ground_is.outs-Named id) over
      (subst (λ found. Contains (row_parts found) h) (sym at) (contained-flat row.types v f gs h at_v at_f))

  -- the number of a reference that is one over the world
  pub reference-below : (g : Ground) (r : RefId) → IsTypeOver tables g → out-Ground g ≡ Ground-F.Ref r → r.0 < length tables.refs
  unfolding is_type_over
  reference-below g r over e =
      let (formed, _) = and_parts (list_all (λ h. is_head_in_form (length world.named) (length world.refs) (out-Ground h)) (written_types g)) (is_whole (expanded_in tables g)) over in
      less r.0 (length world.refs)
      (sym (ap (is_head_in_form (length world.named) (length world.refs)) e)
      ∙ written-itself (λ h. is_head_in_form (length world.named) (length world.refs) (out-Ground h)) g formed)
