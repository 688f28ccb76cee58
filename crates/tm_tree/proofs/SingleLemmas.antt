-- The tree of a type without alternatives has none.
use Rattle.std.proofs.Common.{◌≡◌, ℕ, ◌+◌, ◌-◌, ◌==◌, ◌≤◌, refl, nat_le, Bool, true, false, ◌||◌, if◌then◌else◌, List, [], ◌∷◌, ◌++◌, length, arith}
use Rattle.std.proofs.lemmas.Bool.Decides.{nat_tests}
use Rattle.tm_base.specs.declared.definition.Kind.TheVariants.{Struct, Union, Enum}
use Rattle.tm_base.specs.declared.definition.Repr.{Repr}
use Rattle.tm_base.specs.declared.ground.Primitive.{Primitive}
use Rattle.tm_base.specs.declared.ground.Primitive.TheVariants as primitive
use Rattle.tm_base.specs.declared.ground.Wrapper.{Wrapper}
use Rattle.tm_base.specs.declared.ground.Wrapper.TheVariants as wrapper
use Rattle.tm_base.specs.declared.profile.Profile.{Profile}
use Rattle.tm_base.specs.declared.tree.Tree.{Tree, Range, Pad, Ref, Private}
use Rattle.tm_base.specs.declared.tree.Tree.TheBlock.{shape-the_row-Tree-1, hidden-the_row-Tree-1}
use Rattle.tm_base.specs.Expanded.{Expanded, Fields, Variants, too_deep, prim, never, unit, tuple, array, nonzero, phantom, wrap, ref, named, no_fields, field, no_variants, variant}
use Rattle.tm_base.specs.Layout.{field_layouts, places, size_of, tag_layout}
use Rattle.tm_base.specs.Parts.{field_count, has_alternatives, is_char, is_maybe_uninit, is_option, some_part, some_field, some_variant, some_within, total_fields, variant_count}
use Rattle.tm_base.specs.Places.{fields_place, variant_places}
use Rattle.tm_base.specs.Profiles.{pointer_size}
use Rattle.tm_base.specs.Shapes.{HasNoChoice, NoneHasChoice}
use Rattle.tm_base.specs.Valid.{all_public}
use Rattle.tm_niche.specs.Forms.{is_never, joined, one_of, repeated, tag_form}
use Rattle.tm_niche.proofs.FormLemmas.{joined-single, one_of-single, repeated-single, single-Never, single-Pad, single-Range, NoneHasChoice-append}
use Rattle.tm_niche.proofs.TagLemmas.{tag-single}
use Rattle.tm_tree.specs.Parts.{bare_parts, field_parts, guarded, hidden, pads, parts_of, prim_parts, struct_parts, tree_for, turns_of, union_parts, union_ways, variant_ways, wrap_parts}

first_none : (a b : Bool) → (a || b) ≡ false → a ≡ false
first_none true b e = cc
first_none false b e = refl

second_none : (a b : Bool) → (a || b) ≡ false → b ≡ false
second_none true b e = cc
second_none false b e = e

single-Ref : (r : _) → HasNoChoice (Ref r)
unfolding HasNoChoice
single-Ref r = tt

single-Private : (t : Tree) → HasNoChoice t → HasNoChoice (Private t)
unfolding HasNoChoice shape-the_row-Tree-1 hidden-the_row-Tree-1 denote.Hole.Carrier.hidden
single-Private t h = (h, tt)

single-hidden : (t : Tree) → HasNoChoice t → HasNoChoice (hidden t)
single-hidden t h = elim (is_never t) as (λ b. HasNoChoice (if b then t else Private t)) [ true ↦ h | false ↦ single-Private t h ]

single-guarded : (public : Bool) (ts : List Tree) → NoneHasChoice ts → NoneHasChoice (guarded public ts)
single-guarded true ts h = h
single-guarded false ts h = (single-hidden (joined ts) (joined-single ts h), tt)

single-pads : (n : ℕ) → NoneHasChoice (pads n)
single-pads n = repeated-single n Pad single-Pad

single-bytes : (n : ℕ) → NoneHasChoice (repeated n (Range 0 255))
single-bytes n = repeated-single n (Range 0 255) (single-Range 0 255)

prim-single : (profile : Profile) (p : Primitive) → is_char p ≡ false → NoneHasChoice (prim_parts profile p)
prim-single profile primitive.Bool h = (single-Range 0 1, tt)
prim-single profile primitive.Char h = cc
prim-single profile primitive.U8 h = single-bytes 1
prim-single profile primitive.U16 h = single-bytes 2
prim-single profile primitive.U32 h = single-bytes 4
prim-single profile primitive.U64 h = single-bytes 8
prim-single profile primitive.U128 h = single-bytes 16
prim-single profile primitive.Usize h = single-bytes (pointer_size profile)
prim-single profile primitive.I8 h = single-bytes 1
prim-single profile primitive.I16 h = single-bytes 2
prim-single profile primitive.I32 h = single-bytes 4
prim-single profile primitive.I64 h = single-bytes 8
prim-single profile primitive.I128 h = single-bytes 16
prim-single profile primitive.Isize h = single-bytes (pointer_size profile)
prim-single profile primitive.F32 h = single-bytes 4
prim-single profile primitive.F64 h = single-bytes 8

turns-single : (n : ℕ) (ts : List Tree) → NoneHasChoice ts → NoneHasChoice (turns_of n ts)
turns-single n ts h = elim (n == 1) as (λ b. NoneHasChoice (if b then ts else repeated n (joined ts))) [ true ↦ h | false ↦ repeated-single n (joined ts) (joined-single ts h) ]

wrap-single : (k : Wrapper) (n : ℕ) (ts : List Tree) → (is_option k || is_maybe_uninit k) ≡ false → NoneHasChoice ts → NoneHasChoice (wrap_parts k n ts)
wrap-single wrapper.Option n ts e h = cc
wrap-single wrapper.MaybeUninit n ts e h = cc
wrap-single wrapper.ManuallyDrop n ts e h = h
wrap-single wrapper.Wrapping n ts e h = h
wrap-single wrapper.Cell n ts e h = h
wrap-single wrapper.UnsafeCell n ts e h = h
wrap-single wrapper.PhantomData n ts e h = h

one_of-none : HasNoChoice (one_of [])
unfolding one_of
one_of-none = single-Never

few : (n : ℕ) → nat_le 2 n ≡ false → n ≤ 1
few n e = grind (arith, nat_tests)

either-single : (b : Bool) (ts ss : List Tree) → NoneHasChoice ts → NoneHasChoice ss → NoneHasChoice (if b then ts else ss)
either-single true ts ss h k = h
either-single false ts ss h k = k

-- ways of which there is one at most are no alternative
pub one_way : (ways : List Tree) → length ways ≤ 1 → NoneHasChoice ways → HasNoChoice (one_of ways)
one_way [] n h = one_of-none
one_way (t ∷ []) n h = one_of-single t h.0
one_way (t ∷ s ∷ ways) n h = absurd (omega arith)

union-count : (size : ℕ) (members : Fields) → length (union_ways size members) ≡ field_count members
unfolding parts_of
union-count size no_fields = refl
union-count size (field public t rest) = let e = union-count size rest in omega arith

variant-count : (own : Profile) (repr : Repr) (begin size : ℕ) (variants : Variants) → length (variant_ways own repr begin size variants) ≡ variant_count variants
unfolding parts_of
variant-count own repr begin size no_variants = refl
variant-count own repr begin size (variant value members rest) = let e = variant-count own repr begin size rest in omega arith

abbrev has_several_parts : Expanded → Bool
has_several_parts t = some_within has_alternatives t

mutual
  unfolding parts_of some_part

  pub parts-single : (t : Expanded) → some_within has_alternatives t ≡ false → NoneHasChoice (parts_of t)
  parts-single too_deep h = (single-Never, tt)
  parts-single (prim own p) h = prim-single own p (first_none (is_char p) false h)
  parts-single never h = (single-Never, tt)
  parts-single unit h = tt
  parts-single (tuple members) h = (single-Never, tt)
  parts-single (array t n) h = turns-single n (parts_of t) (parts-single t h)
  parts-single (nonzero own p) h = cc
  parts-single phantom h = tt
  parts-single (wrap k t) h =
      wrap-single k (size_of t) (parts_of t) (first_none (is_option k || is_maybe_uninit k) (some_within has_alternatives t) h) (parts-single t (second_none (is_option k || is_maybe_uninit k) (some_within has_alternatives t) h))
  parts-single (ref own r) h = (single-Ref r, tt)
  parts-single (named own id Struct repr variants) h = struct-single repr (size_of (named own id Struct repr variants)) variants h
  parts-single (named own id Union repr variants) h =
      union-single (size_of (named own id Union repr variants)) variants (few (total_fields variants) (first_none (nat_le 2 (total_fields variants)) (some_variant has_alternatives variants) h))
      (second_none (nat_le 2 (total_fields variants)) (some_variant has_alternatives variants) h)
  parts-single (named own id Enum repr variants) h =
      let size = size_of (named own id Enum repr variants) in
      let several = few (variant_count variants) (first_none (nat_le 2 (variant_count variants)) (some_variant has_alternatives variants) h) in
      let count = variant-count own repr (fields_place own repr variants) size variants in (
        one_way (variant_ways own repr (fields_place own repr variants) size variants) (omega arith)
            (ways-single own repr (fields_place own repr variants) size variants (second_none (nat_le 2 (variant_count variants)) (some_variant has_alternatives variants) h)),
        tt,
      )

  struct-single : (repr : Repr) (size : ℕ) (variants : Variants) → some_variant has_alternatives variants ≡ false → NoneHasChoice (struct_parts repr size variants)
  struct-single repr size no_variants h = (single-Never, tt)
  struct-single repr size (variant value members others) h =
      let inside = first_none (some_field has_alternatives members) (some_variant has_alternatives others) h in
      let placed = field_parts size 0 (places repr.packed 0 (field_layouts members)) members in
      single-guarded (all_public members) (if repr.transparent then bare_parts members else placed)
      (either-single repr.transparent (bare_parts members) placed (bare-single members inside) (fields-single size 0 (places repr.packed 0 (field_layouts members)) members inside))

  bare-single : (members : Fields) → some_field has_alternatives members ≡ false → NoneHasChoice (bare_parts members)
  bare-single no_fields h = tt
  bare-single (field public t rest) h =
      NoneHasChoice-append (parts_of t) (bare_parts rest) (parts-single t (first_none (some_within has_alternatives t) (some_field has_alternatives rest) h)) (bare-single rest (second_none (some_within has_alternatives t) (some_field has_alternatives rest) h))

  fields-single : (end at : ℕ) (ps : List ℕ) (members : Fields) → some_field has_alternatives members ≡ false → NoneHasChoice (field_parts end at ps members)
  fields-single end at ps no_fields h = single-pads (end - at)
  fields-single end at [] (field public t rest) h = (single-Never, tt)
  fields-single end at (place ∷ ps) (field public t rest) h =
      NoneHasChoice-append (pads (place - at)) (parts_of t ++ field_parts end (place + size_of t) ps rest) (single-pads (place - at))
      (NoneHasChoice-append (parts_of t) (field_parts end (place + size_of t) ps rest)
      (parts-single t (first_none (some_within has_alternatives t) (some_field has_alternatives rest) h))
      (fields-single end (place + size_of t) ps rest (second_none (some_within has_alternatives t) (some_field has_alternatives rest) h)))

  union-single : (size : ℕ) (variants : Variants) → total_fields variants ≤ 1 → some_variant has_alternatives variants ≡ false → NoneHasChoice (union_parts size variants)
  union-single size no_variants n h = (single-Never, tt)
  union-single size (variant value members others) n h =
      let count = union-count size members in
      single-guarded (all_public members) (one_of (union_ways size members) ∷ [])
      (one_way (union_ways size members) (omega arith) (union-each size members (first_none (some_field has_alternatives members) (some_variant has_alternatives others) h)), tt)

  union-each : (size : ℕ) (members : Fields) → some_field has_alternatives members ≡ false → NoneHasChoice (union_ways size members)
  union-each size no_fields h = tt
  union-each size (field public t rest) h = (
    joined-single (parts_of t ++ pads (size - size_of t)) (NoneHasChoice-append (parts_of t) (pads (size - size_of t)) (parts-single t (first_none (some_within has_alternatives t) (some_field has_alternatives rest) h)) (single-pads (size - size_of t))),
    union-each size rest (second_none (some_within has_alternatives t) (some_field has_alternatives rest) h),
  )

  ways-single : (own : Profile) (repr : Repr) (begin size : ℕ) (variants : Variants) → some_variant has_alternatives variants ≡ false → NoneHasChoice (variant_ways own repr begin size variants)
  ways-single own repr begin size no_variants h = tt
  ways-single own repr begin size (variant value members rest) h =
      let tag = (tag_layout own repr.tag).size in
      let ps = variant_places own repr begin (field_layouts members) in (
        joined-single (tag_form own tag value ∷ field_parts size tag ps members)
            (tag-single own tag value, fields-single size tag ps members (first_none (some_field has_alternatives members) (some_variant has_alternatives rest) h)),
        ways-single own repr begin size rest (second_none (some_field has_alternatives members) (some_variant has_alternatives rest) h),
      )

-- the tree of a type without alternatives has none
pub tree-single : (t : Expanded) → some_within has_alternatives t ≡ false → HasNoChoice (tree_for t)
unfolding tree_for
tree-single t h = joined-single (parts_of t) (parts-single t h)
