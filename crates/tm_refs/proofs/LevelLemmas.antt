-- The leaves of a type by those of its parts.
use Rattle.std.proofs.Common.{◌≡◌, ℕ, refl, sym, ◌∙◌, ap, true, false, ◌||◌, List, [], ◌∷◌, length, Some, slice_get, arith}
use Rattle.std.specs.Prelude.{◌==◌}
use Rattle.std.specs.List.{list_any}
use Rattle.std.proofs.lemmas.Bool.{and_parts, eqb-true}
use Rattle.tm_base.specs.declared.cell.RefId.{RefId}
use Rattle.tm_base.specs.declared.definition.Field.{Field}
use Rattle.tm_base.specs.declared.definition.NamedRow.{NamedRow}
use Rattle.tm_base.specs.declared.definition.Variant.{Variant}
use Rattle.tm_base.specs.declared.ground.Ground.{Ground, out-Ground, Prim, Named}
use Rattle.tm_base.specs.declared.ground.Ground.TheOpen.{Ground-F}
use Rattle.tm_base.specs.declared.ground.Ground.TheVariants as ground_is
use Rattle.tm_base.specs.declared.ground.NamedId.{NamedId}
use Rattle.tm_base.specs.declared.ground.Wrapper.{Wrapper}
use Rattle.tm_base.specs.declared.ground.Wrapper.TheVariants as wrapper
use Rattle.tm_base.specs.declared.world.World.{World}
use Rattle.tm_base.specs.Expanded.{Expanded, elements, fields_of, variants_of, defined, row_of, wrapped, level}
use Rattle.tm_base.specs.Parts.{some_part, some_field, some_variant}
use Rattle.tm_base.specs.Tables.{Tables, expanded_in}
use Rattle.tm_base.specs.Whole.{has_its_types}
use Rattle.tm_base.specs.Worlds.{IsTypeOver, tables_of}
use Rattle.tm_base.proofs.ExpandedLemmas.{expanded-level}
use Rattle.tm_layout.specs.Making.{IsWrittenOut}
use Rattle.tm_layout.proofs.MakingLemmas.{def-of, row-in_form}
use Rattle.tm_layout.proofs.TableLemmas.{over-whole}
use Rattle.tm_refs.specs.Leaves.{leaf_of, some_leaf, variant_leaf}
use Rattle.tm_refs.specs.Looks.{has_leaf, is_reference}
use Rattle.tm_refs.proofs.AddedLemmas.{or-false}

module _ (part : Ground → Expanded) (x : ℕ) where
  elements-leaf : (gs : List Ground) → some_field (is_reference x) (elements part gs) ≡ list_any (λ g. has_leaf (part g) x) gs
  unfolding some_part
  elements-leaf [] = refl
  elements-leaf (g ∷ gs) = ap (λ b. has_leaf (part g) x || b) (elements-leaf gs)

  fields-leaf : (fs : List Field) (gs : List Ground) → length fs ≡ length gs → some_field (is_reference x) (fields_of part fs gs) ≡ list_any (λ g. has_leaf (part g) x) gs
  unfolding some_part
  fields-leaf [] [] e = refl
  fields-leaf [] (g ∷ gs) e = absurd (omega arith)
  fields-leaf (f ∷ fs) [] e = absurd (omega arith)
  fields-leaf (f ∷ fs) (g ∷ gs) e = ap (λ b. has_leaf (part g) x || b) (fields-leaf fs gs (omega arith))

  variants-leaf : (vs : List Variant) (types : List (List Ground)) → has_its_types vs types ≡ true
      → some_variant (is_reference x) (variants_of part vs types) ≡ list_any (λ gs. list_any (λ g. has_leaf (part g) x) gs) types
  unfolding some_part
  variants-leaf [] [] h = refl
  variants-leaf [] (gs ∷ types) h = cc
  variants-leaf (v ∷ vs) [] h = cc
  variants-leaf (v ∷ vs) (gs ∷ types) h =
      let (here, others) = and_parts (length v.fields == length gs) (has_its_types vs types) h in
      let first = fields-leaf v.fields gs (eqb-true (length v.fields) (length gs) here) in
      let rest = variants-leaf vs types others in
      cc

module _ (world : World) where
  abbrev tables : Tables
  tables = tables_of world

  whole-of : (g : Ground) → IsTypeOver tables g → IsWrittenOut tables g
  whole-of g over = record { whole = over-whole tables g over }

  pub written-out : (g : Ground) → IsTypeOver tables g → IsWrittenOut tables g
  written-out = whole-of

  leaf-level : (g : Ground) (y : Ground-F Ground) → IsTypeOver tables g → out-Ground g ≡ y → (x : ℕ)
      → leaf_of tables g x ≡ has_leaf (level (expanded_in tables) tables.profile tables.defs tables.named y) x
  leaf-level g y over e x =
      ap (λ t. has_leaf t x) (expanded-level tables.profile tables.defs tables.named g (over-whole tables g over)
      ∙ ap (level (expanded_in tables) tables.profile tables.defs tables.named) e)

  pub leaf-Tuple : (g : Ground) (gs : List Ground) → IsTypeOver tables g → out-Ground g ≡ Ground-F.Tuple gs → (x : ℕ) → some_leaf tables gs x ≡ leaf_of tables g x
  unfolding some_part
  leaf-Tuple g gs over e x = sym (leaf-level g (Ground-F.Tuple gs) over e x ∙ elements-leaf (expanded_in tables) x gs)

  pub leaf-Array : (g element : Ground) (n : ℕ) → IsTypeOver tables g → out-Ground g ≡ Ground-F.Array element n → (x : ℕ) → leaf_of tables element x ≡ leaf_of tables g x
  unfolding some_part
  leaf-Array g element n over e x = sym (leaf-level g (Ground-F.Array element n) over e x)

  pub leaf-Ref : (g : Ground) (r : RefId) → IsTypeOver tables g → out-Ground g ≡ Ground-F.Ref r → (x : ℕ) → (r.0 == x) ≡ leaf_of tables g x
  unfolding some_part
  leaf-Ref g r over e x = sym (leaf-level g (Ground-F.Ref r) over e x ∙ or-false (r.0 == x))

  wrapped-leaf : (w : Wrapper) (argument : Ground) (x : ℕ) → (w ≡ wrapper.PhantomData → ⊥) → has_leaf (wrapped (expanded_in tables) w argument) x ≡ leaf_of tables argument x
  unfolding some_part
  wrapped-leaf wrapper.PhantomData argument x other = absurd (other refl)
  wrapped-leaf w argument x other = refl

  pub leaf-Wrap : (g argument : Ground) (w : Wrapper) → (w ≡ wrapper.PhantomData → ⊥) → IsTypeOver tables g → out-Ground g ≡ Ground-F.Wrap w argument → (x : ℕ)
      → leaf_of tables argument x ≡ leaf_of tables g x
  leaf-Wrap g argument w other over e x = sym (leaf-level g (Ground-F.Wrap w argument) over e x ∙ wrapped-leaf w argument x other)

  pub leaf-row : (id : NamedId) (row : NamedRow) → IsTypeOver tables (Named id) → slice_get tables.named id.0 ≡ Some row → (x : ℕ) → variant_leaf tables row.types x ≡ leaf_of tables (Named id) x
  unfolding some_part
  leaf-row id row over at x =
      let (d, has, its) = def-of row (slice_get tables.defs row.def.0) (row-in_form world id.0 row at) in
      sym (leaf-level (Named id) (Ground-F.Named id) over (ground_is.outs-Named id) x
      ∙ (ap (λ o. has_leaf (row_of (expanded_in tables) tables.profile tables.defs id o) x) at
      ∙ (ap (λ o. has_leaf (defined (expanded_in tables) tables.profile id row.types o) x) has
      ∙ variants-leaf (expanded_in tables) x d.variants row.types its)))

  -- a type without parts has no leaves
  pub leaf-none : (g : Ground) (y : Ground-F Ground) → IsTypeOver tables g → out-Ground g ≡ y
      → ((x : ℕ) → has_leaf (level (expanded_in tables) tables.profile tables.defs tables.named y) x ≡ false) → (x : ℕ) → leaf_of tables g x ≡ false
  leaf-none g y over e none x = leaf-level g y over e x ∙ none x
