-- Of which types the tree says the valid words: those of one profile whose tags hold their values and whose
-- transparent structs have one field at most that takes room.
use Rattle.std.specs.Prelude.{◌≡◌, ◌≤◌, ◌<◌, ◌^◌, ℕ, true}
use Rattle.tm_base.specs.declared.definition.Kind.{Kind}
use Rattle.tm_base.specs.declared.definition.Kind.TheVariants.{Struct, Union, Enum}
use Rattle.tm_base.specs.declared.definition.Repr.{Repr}
use Rattle.tm_base.specs.declared.profile.Profile.{Profile}
use Rattle.tm_base.specs.Expanded.{Expanded, Fields, Variants, array, wrap, ref, named, no_fields, field, no_variants, variant}
use Rattle.tm_base.specs.Faults.{sized_count}
use Rattle.tm_base.specs.Layout.{only, tag_layout, variant_layouts}
use Rattle.tm_niche.specs.Forms.{magnitude}

-- a tag of so many bytes holds the variants' discriminants
abbrev pub HoldsValues : ℕ → Variants → Type 0
HoldsValues size no_variants = Unit {0}
HoldsValues size (variant value members rest) = (magnitude value < 256 ^ size) × HoldsValues size rest

-- what is asked of a definition itself
abbrev pub IsFitKind : Profile → Kind → Repr → Variants → Type 0
IsFitKind profile Struct repr vs = repr.transparent ≡ true → sized_count (only (variant_layouts vs)) ≤ 1
IsFitKind profile Union repr vs = Unit {0}
IsFitKind profile Enum repr vs = HoldsValues (tag_layout profile repr.tag).size vs

module _ (profile : Profile) where
  unfoldable mutual
    pub IsFit : Expanded → Type 0
    IsFit (array t n) = IsFit t
    IsFit (wrap w t) = IsFit t
    IsFit (ref other r) = other ≡ profile
    IsFit (named other id kind repr variants) = IsFitKind other kind repr variants × AreVariantsFit variants
    IsFit t = Unit {0}

    pub AreFit : Fields → Type 0
    AreFit no_fields = Unit {0}
    AreFit (field public t rest) = IsFit t × AreFit rest

    pub AreVariantsFit : Variants → Type 0
    AreVariantsFit no_variants = Unit {0}
    AreVariantsFit (variant value members rest) = AreFit members × AreVariantsFit rest
