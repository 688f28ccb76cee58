-- What is known of a type, by what is known of its parts.
use Rattle.std.specs.Prelude.{◌≡◌, ◌≤◌, ◌^◌, ⊤, None, List, [], ◌∷◌, length}
use Rattle.tm_base.specs.declared.definition.Def.{Def}
use Rattle.tm_base.specs.declared.definition.Variant.{Variant}
use Rattle.tm_base.specs.declared.ground.NamedId.{NamedId}
use Rattle.tm_base.specs.declared.profile.Profile.{Profile}
use Rattle.tm_base.specs.Expanded.{Expanded, Fields, Variants, named, no_fields, field, no_variants, variant}
use Rattle.tm_base.specs.Faults.{fault_of, has_align, is_nullable}
use Rattle.tm_base.specs.Layout.{align_of, size_of}
use Rattle.tm_base.specs.Parts.{field_count, has_interior, some_within}
use Rattle.tm_base.specs.Weight.{weight_limit, weight_of}
use Rattle.tm_layout.specs.declared.facts.Facts.{Facts}
use Rattle.tm_layout.specs.Refusals.{refusal_of}

-- the size, the alignment and the weight of a type that has a layout, and how great they may be
pub record HasLayout (t : Expanded) (facts : Facts) : Type 0 where
  pub size : facts.size ≡ size_of t
  pub align : facts.align ≡ align_of t
  pub weight : facts.weight ≡ weight_of t
  -- no type weighs less than it has bytes
  pub light : facts.weight ≤ weight_limit
  pub heavier : facts.size ≤ facts.weight
  pub aligned : facts.align ≤ 2 ^ 29

-- these are the facts of the type
pub record IsFactsOf (t : Expanded) (facts : Facts) : Type 0 where
  pub fault : facts.fault ≡ fault_of t
  pub refusal : facts.refusal ≡ refusal_of t
  pub nullable : facts.nullable ≡ is_nullable t
  pub aligned : facts.aligned ≡ some_within has_align t
  pub interior : facts.interior ≡ has_interior t
  pub layout : refusal_of t ≡ None → HasLayout t facts

-- those of the fields, in order
abbrev pub AreFactsOf : Fields → List Facts → Type 0
AreFactsOf no_fields [] = ⊤
AreFactsOf no_fields (f ∷ fs) = ⊥
AreFactsOf (field public t rest) [] = ⊥
AreFactsOf (field public t rest) (f ∷ fs) = IsFactsOf t f × AreFactsOf rest fs

-- those of the fields of each variant, in order
abbrev pub AreVariantFacts : Variants → List (List Facts) → Type 0
AreVariantFacts no_variants [] = ⊤
AreVariantFacts no_variants (fs ∷ facts) = ⊥
AreVariantFacts (variant value members rest) [] = ⊥
AreVariantFacts (variant value members rest) (fs ∷ facts) = AreFactsOf members fs × AreVariantFacts rest facts

-- variants with these discriminants and numbers of fields
abbrev pub AreVariantsFor : List Variant → Variants → Type 0
AreVariantsFor [] no_variants = ⊤
AreVariantsFor [] (variant value members rest) = ⊥
AreVariantsFor (v ∷ vs) no_variants = ⊥
AreVariantsFor (v ∷ vs) (variant value members rest) = (v.value ≡ value) × (length v.fields ≡ field_count members) × AreVariantsFor vs rest

-- what holds of each type of a definition, where its fields have these facts
abbrev pub OfDefined : Profile → Def → List (List Facts) → (Expanded → Type 0) → Type 0
OfDefined profile def facts Fact =
    (id : NamedId) (variants : Variants) → AreVariantsFor def.variants variants → AreVariantFacts variants facts
    → Fact (named profile id def.kind def.repr variants)
