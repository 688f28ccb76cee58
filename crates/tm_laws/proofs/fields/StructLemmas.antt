-- The value of a struct by the places of its fields.
use Rattle.std.proofs.Common.{◌≡◌, ℕ, ◌+◌, ◌≤◌, refl, sym, subst, false, ℤ, List, [], ◌∷◌, map, Option, arith}
use Rattle.tm_base.specs.declared.definition.Kind.TheVariants.{Struct}
use Rattle.tm_base.specs.declared.definition.Repr.{Repr}
use Rattle.tm_base.specs.declared.ground.NamedId.{NamedId}
use Rattle.tm_base.specs.declared.profile.Profile.{Profile}
use Rattle.tm_base.specs.Expanded.{Fields, Variants, named, variant}
use Rattle.tm_base.specs.Layout.{Layout, places, end_of, struct_layout, size_of, layout_of, field_layouts}
use Rattle.tm_base.specs.Transmutes.{holds}
use Rattle.tm_base.specs.Valid.{Valid}
use Rattle.tm_laws.specs.SliceLaws.{HoldsAt, StructsHoldTheirFields}
use Rattle.tm_laws.proofs.fields.SliceLemmas.{fields-hold, hold-fields}

-- nothing is added to a place
pub unshifted : (ps : List ℕ) → map (λ p. 0 + p) ps ≡ ps
unshifted [] = refl
unshifted (p ∷ ps) = let one : 0 + p ≡ p = omega arith in let more = unshifted ps in cc

-- a struct ends where its last field does, or behind that
ends-inside : (packed align : Option ℕ) (ls : List Layout) → end_of packed 0 ls ≤ (struct_layout packed align ls).size
ends-inside packed align ls = omega arith

struct-size : (profile : Profile) (id : NamedId) (repr : Repr) (value : ℤ) (members : Fields) (others : Variants) → repr.transparent ≡ false
    → size_of (named profile id Struct repr (variant value members others)) ≡ (struct_layout repr.packed repr.align (field_layouts members)).size
unfolding layout_of
struct-size profile id repr value members others plain = rw plain refl

pub struct-by-places : StructsHoldTheirFields
unfolding Valid
struct-by-places A keep profile id repr value members others w plain =
    let ls = field_layouts members in
    let same = unshifted (places repr.packed 0 ls) in
    let size = struct-size profile id repr value members others plain in
    let ends = ends-inside repr.packed repr.align ls in (
      λ (long, both). (
        long,
        both.0,
        subst (λ (ps : List ℕ). HoldsAt (holds A) keep 0 ps members w) same (fields-hold (holds A) keep repr.packed 0 0 members [] w refl both.1),
      ),
      λ (long, opened, h). (
        long,
        (
          opened,
          hold-fields (holds A) keep repr.packed 0 0 members [] w refl (omega (arith, long, size, ends)) (subst (λ (ps : List ℕ). HoldsAt (holds A) keep 0 ps members w) (sym same) h),
        ),
      ),
    )
