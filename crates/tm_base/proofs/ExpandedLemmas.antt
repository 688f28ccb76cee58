-- A type that is whole is one level over its parts, written out: the greatest depth is seen no more.
use Rattle.std.proofs.Common.{◌≡◌, ℕ, zero, suc, refl, sym, ap, Bool, true, false, ◌||◌, not, IsTrue, List, [], ◌∷◌, Option, Some, None, slice_get}
use Rattle.tm_base.specs.declared.definition.Def.{Def}
use Rattle.tm_base.specs.declared.definition.Field.{Field}
use Rattle.tm_base.specs.declared.definition.NamedRow.{NamedRow}
use Rattle.tm_base.specs.declared.definition.Variant.{Variant}
use Rattle.tm_base.specs.declared.ground.Ground.{Ground, out-Ground}
use Rattle.tm_base.specs.declared.ground.Ground.TheOpen.{Ground-F}
use Rattle.tm_base.specs.declared.ground.NamedId.{NamedId}
use Rattle.tm_base.specs.declared.ground.Wrapper.{Wrapper}
use Rattle.tm_base.specs.declared.ground.Wrapper.TheVariants as wrapper
use Rattle.tm_base.specs.declared.profile.Profile.{Profile}
use Rattle.tm_base.specs.Expanded.{Expanded, tuple, array, wrap, named, elements, fields_of, variants_of, defined, row_of, wrapped, level, expanded_within, expanded, depth_limit}
use Rattle.tm_base.specs.Parts.{some_part, some_field, some_variant, some_within, is_too_deep, is_whole}

first_false : (a b : Bool) → (a || b) ≡ false → a ≡ false
first_false true b h = h
first_false false b h = refl

second_false : (a b : Bool) → (a || b) ≡ false → b ≡ false
second_false true b h = cc
second_false false b h = h

-- no part is past the greatest depth
abbrev pub IsDeepEnough : Expanded → Type 0
IsDeepEnough t = some_within is_too_deep t ≡ false

abbrev part_deep : Expanded → Bool
part_deep t = some_part is_too_deep t

-- Two ways to write out the parts of a type make one type of it, where they agree on each part that the
-- first writes out whole.
module _ (profile : Profile) (f h : Ground → Expanded) (agree : (g : Ground) → IsDeepEnough (f g) → h g ≡ f g) where
  elements-same : (gs : List Ground) → some_field is_too_deep (elements f gs) ≡ false → elements h gs ≡ elements f gs
  unfolding some_part
  elements-same [] e = refl
  elements-same (g ∷ gs) e =
      let a = agree g (first_false (some_within is_too_deep (f g)) (some_field is_too_deep (elements f gs)) e) in
      let b = elements-same gs (second_false (some_within is_too_deep (f g)) (some_field is_too_deep (elements f gs)) e) in
      cc

  fields_of-same : (fs : List Field) (types : List Ground) → some_field is_too_deep (fields_of f fs types) ≡ false → fields_of h fs types ≡ fields_of f fs types
  unfolding some_part
  fields_of-same [] types e = refl
  fields_of-same (x ∷ fs) [] e = refl
  fields_of-same (x ∷ fs) (g ∷ gs) e =
      let a = agree g (first_false (some_within is_too_deep (f g)) (some_field is_too_deep (fields_of f fs gs)) e) in
      let b = fields_of-same fs gs (second_false (some_within is_too_deep (f g)) (some_field is_too_deep (fields_of f fs gs)) e) in
      cc

  variants_of-same : (vs : List Variant) (types : List (List Ground)) → some_variant is_too_deep (variants_of f vs types) ≡ false → variants_of h vs types ≡ variants_of f vs types
  unfolding some_part
  variants_of-same [] types e = refl
  variants_of-same (v ∷ vs) [] e = refl
  variants_of-same (v ∷ vs) (gs ∷ types) e =
      let a = fields_of-same v.fields gs (first_false (some_field is_too_deep (fields_of f v.fields gs)) (some_variant is_too_deep (variants_of f vs types)) e) in
      let b = variants_of-same vs types (second_false (some_field is_too_deep (fields_of f v.fields gs)) (some_variant is_too_deep (variants_of f vs types)) e) in
      cc

  defined-same : (id : NamedId) (types : List (List Ground)) (d : Option Def) → IsDeepEnough (defined f profile id types d) → defined h profile id types d ≡ defined f profile id types d
  unfolding some_part
  defined-same id types None e = refl
  defined-same id types (Some d) e = ap (named profile id d.kind d.repr) (variants_of-same d.variants types e)

  row_of-same : (defs : List Def) (id : NamedId) (row : Option NamedRow) → IsDeepEnough (row_of f profile defs id row) → row_of h profile defs id row ≡ row_of f profile defs id row
  row_of-same defs id None e = refl
  row_of-same defs id (Some row) e = defined-same id row.types (slice_get defs row.def.0) e

  wrapped-same : (w : Wrapper) (g : Ground) → IsDeepEnough (wrapped f w g) → wrapped h w g ≡ wrapped f w g
  unfolding some_part
  wrapped-same wrapper.PhantomData g e = refl
  wrapped-same wrapper.Option g e = ap (wrap wrapper.Option) (agree g e)
  wrapped-same wrapper.MaybeUninit g e = ap (wrap wrapper.MaybeUninit) (agree g e)
  wrapped-same wrapper.ManuallyDrop g e = ap (wrap wrapper.ManuallyDrop) (agree g e)
  wrapped-same wrapper.Wrapping g e = ap (wrap wrapper.Wrapping) (agree g e)
  wrapped-same wrapper.Cell g e = ap (wrap wrapper.Cell) (agree g e)
  wrapped-same wrapper.UnsafeCell g e = ap (wrap wrapper.UnsafeCell) (agree g e)

  level-same : (defs : List Def) (rows : List NamedRow) (x : Ground-F Ground) → IsDeepEnough (level f profile defs rows x) → level h profile defs rows x ≡ level f profile defs rows x
  unfolding some_part
  level-same defs rows (Ground-F.Prim p) e = refl
  level-same defs rows Ground-F.Never e = refl
  level-same defs rows Ground-F.Unit e = refl
  level-same defs rows (Ground-F.Tuple gs) e = ap tuple (elements-same gs e)
  level-same defs rows (Ground-F.Array g n) e = ap (λ t. array t n) (agree g e)
  level-same defs rows (Ground-F.Named id) e = row_of-same defs id (slice_get rows id.0) e
  level-same defs rows (Ground-F.NonZero p) e = refl
  level-same defs rows (Ground-F.Wrap w g) e = wrapped-same w g e
  level-same defs rows (Ground-F.Ref r) e = refl

-- a greater depth gives the same type, where the lesser is enough
expanded_within-stable : (profile : Profile) (n : ℕ) (defs : List Def) (rows : List NamedRow) (g : Ground) → IsDeepEnough (expanded_within profile n defs rows g) → expanded_within profile (suc n) defs rows g ≡ expanded_within profile n defs rows g
unfolding expanded_within
expanded_within-stable profile zero defs rows g e = cc
expanded_within-stable profile (suc n) defs rows g e =
    level-same profile (expanded_within profile n defs rows) (expanded_within profile (suc n) defs rows) (λ part. expanded_within-stable profile n defs rows part) defs rows (out-Ground g) e

whole_deep : (b : Bool) → not b ≡ true → b ≡ false
whole_deep true h = cc
whole_deep false h = refl

-- a whole type is one level over its parts
pub expanded-level : (profile : Profile) (defs : List Def) (rows : List NamedRow) (g : Ground) → IsTrue (is_whole (expanded profile defs rows g)) → expanded profile defs rows g ≡ level (expanded profile defs rows) profile defs rows (out-Ground g)
unfolding expanded_within
expanded-level profile defs rows g e =
    sym (expanded_within-stable profile depth_limit defs rows g (whole_deep (some_within is_too_deep (expanded profile defs rows g)) e))
