-- The parts of a type, written out, are those of the type written out.
use native.Mathlib.Omega.{arith}
use Rattle.std.proofs.Common.{◌≡◌, refl, sym, ◌∙◌, ap, subst, true, ◌&&◌, ◌==◌, IsTrue, List, [], ◌∷◌, ◌++◌, map, length, Option, Some, None, slice_get}
use Rattle.std.specs.List.{flat_map, list_all}
use Rattle.std.proofs.lemmas.Bool.{and_parts, eqb-true}
use Rattle.std.proofs.lemmas.List.{map-append}
use Rattle.tm_base.specs.declared.definition.Def.{Def}
use Rattle.tm_base.specs.declared.definition.Field.{Field}
use Rattle.tm_base.specs.declared.definition.NamedRow.{NamedRow}
use Rattle.tm_base.specs.declared.definition.Variant.{Variant}
use Rattle.tm_base.specs.declared.ground.Ground.{Ground, out-Ground}
use Rattle.tm_base.specs.declared.ground.Ground.TheOpen.{Ground-F}
use Rattle.tm_base.specs.declared.ground.NamedId.{NamedId}
use Rattle.tm_base.specs.declared.ground.Wrapper.{Wrapper}
use Rattle.tm_base.specs.declared.ground.Wrapper.TheVariants as wrapper
use Rattle.tm_base.specs.declared.world.World.{World}
use Rattle.tm_base.specs.Expanded.{Expanded, elements, fields_of, variants_of, defined, row_of, wrapped, level}
use Rattle.tm_base.specs.Parts.{is_whole}
use Rattle.tm_base.specs.Reaches.{argument_of, row_parts, parts_within, parts_of}
use Rattle.tm_base.specs.Tables.{Tables, expanded_in}
use Rattle.tm_base.specs.Whole.{has_its_types, is_row_of, are_rows_in_form, is_type_over}
use Rattle.tm_base.specs.Worlds.{tables_of, IsTypeOver}
use Rattle.tm_base.proofs.ExpandedLemmas.{expanded-level}
use Rattle.tm_base.proofs.WorldLemmas.{list_all-at}
use Rattle.tm_laws.specs.PartLaws.{field_types, variant_types, inner_types, ExpansionKeepsParts}

module _ (part : Ground → Expanded) where
  elements-keep : (gs : List Ground) → field_types (elements part gs) ≡ map part gs
  elements-keep [] = refl
  elements-keep (g ∷ gs) = ap (λ ts. part g ∷ ts) (elements-keep gs)

  fields-keep : (fs : List Field) (gs : List Ground) → length fs ≡ length gs → field_types (fields_of part fs gs) ≡ map part gs
  fields-keep [] [] same = refl
  fields-keep [] (g ∷ gs) same = absurd (omega (same, arith))
  fields-keep (f ∷ fs) [] same = absurd (omega (same, arith))
  fields-keep (f ∷ fs) (g ∷ gs) same = ap (λ ts. part g ∷ ts) (fields-keep fs gs (omega (same, arith)))

  variants-keep : (vs : List Variant) (types : List (List Ground)) → IsTrue (has_its_types vs types) → variant_types (variants_of part vs types) ≡ map part (flat_map (λ gs. gs) types)
  variants-keep [] [] has = refl
  variants-keep [] (gs ∷ types) has = cc
  variants-keep (v ∷ vs) [] has = cc
  variants-keep (v ∷ vs) (gs ∷ types) has =
      let (here, others) = and_parts (length v.fields == length gs) (has_its_types vs types) has in
      let a = fields-keep v.fields gs (eqb-true (length v.fields) (length gs) here) in
      let b = variants-keep vs types others in
      let c = map-append part gs (flat_map (λ gs. gs) types) in
      cc

  module _ (tables : Tables) (rows : IsTrue (list_all (λ row. is_row_of (slice_get tables.defs row.def.0) row) tables.named)) where
    defined-keeps : (id : NamedId) (row : NamedRow) (def : Option Def) → IsTrue (is_row_of def row) → inner_types (defined part tables.profile id row.types def) ≡ map part (row_parts (Some row))
    defined-keeps id row None in_form = cc
    defined-keeps id row (Some def) in_form = variants-keep def.variants row.types in_form

    row-keeps : (id : NamedId) (row : Option NamedRow) → slice_get tables.named id.0 ≡ row → inner_types (row_of part tables.profile tables.defs id row) ≡ map part (row_parts row)
    row-keeps id None e = refl
    row-keeps id (Some row) e =
        defined-keeps id row (slice_get tables.defs row.def.0) (list_all-at (λ row. is_row_of (slice_get tables.defs row.def.0) row) tables.named id.0 row rows e)

    wrapped-keeps : (w : Wrapper) (g : Ground) → inner_types (wrapped part w g) ≡ map part (argument_of w g)
    wrapped-keeps wrapper.PhantomData g = refl
    wrapped-keeps w g = refl

    level-keeps : (x : Ground-F Ground) → inner_types (level part tables.profile tables.defs tables.named x) ≡ map part (parts_within tables.named x)
    level-keeps (Ground-F.Tuple gs) = elements-keep gs
    level-keeps (Ground-F.Array g n) = refl
    level-keeps (Ground-F.Named id) = row-keeps id (slice_get tables.named id.0) refl
    level-keeps (Ground-F.Wrap w g) = wrapped-keeps w g
    level-keeps (Ground-F.Prim p) = refl
    level-keeps Ground-F.Never = refl
    level-keeps Ground-F.Unit = refl
    level-keeps (Ground-F.NonZero p) = refl
    level-keeps (Ground-F.Ref r) = refl

pub expansion-keeps_parts : (world : World) → ExpansionKeepsParts world
unfolding is_type_over are_rows_in_form
expansion-keeps_parts world g over =
    let tables = tables_of world in
    let whole = (and_parts _ (is_whole (expanded_in tables g)) over).1 in
    ap inner_types (expanded-level tables.profile tables.defs tables.named g whole) ∙ level-keeps (expanded_in tables) tables world.rows_in_form (out-Ground g)
