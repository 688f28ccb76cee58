-- What is known of fields, and what they are.
use Rattle.std.proofs.Common.{◌≡◌, ℕ, ◌^◌, ◌≤◌, refl, ap, ◌∙◌, None, List, [], ◌∷◌, arith}
use Rattle.tm_base.specs.Expanded.{Fields, Variants, no_fields, field, no_variants, variant}
use Rattle.tm_base.specs.Faults.{is_nullable, field_nullable, has_align}
use Rattle.tm_base.specs.Layout.{Layout, layout_of, field_layouts, variant_layouts, only}
use Rattle.tm_base.specs.Parts.{some_part, some_field, some_variant, is_cell}
use Rattle.tm_base.specs.Weight.{weight_of, field_weights, variant_weights}
use Rattle.tm_layout.specs.declared.facts.Facts.{Facts}
use Rattle.tm_layout.specs.declared.parts.Parts.{Parts}
use Rattle.tm_layout.specs.Known.{AreFactsOf, AreVariantFacts}
use Rattle.tm_layout.specs.Reckoned.{layout_in, layouts_in, variant_layouts_in, only_fields, weights_in, variant_weights_in}
use Rattle.tm_layout.specs.Refusals.{refusal_of, field_refusal, variant_refusal}
use Rattle.tm_layout.specs.Together.{fields_together, variants_together}
use Rattle.tm_layout.proofs.RefusalLemmas.{none-first, none-second}

-- ---- whatever the fields are

-- what is known of fields together
pub record FieldsKnown (members : Fields) (p : Parts) : Type 0 where
  pub refusal : p.refusal ≡ field_refusal members
  pub nullable : p.nullable ≡ field_nullable members
  pub aligned : p.aligned ≡ some_field has_align members
  pub interior : p.interior ≡ some_field is_cell members

pub fields-known : (members : Fields) (fs : List Facts) → AreFactsOf members fs → FieldsKnown members (fields_together fs)
unfolding refusal_of is_nullable some_part
fields-known no_fields [] h = record { refusal = refl; nullable = refl; aligned = refl; interior = refl }
fields-known no_fields (f ∷ fs) h = absurd h
fields-known (field public t rest) [] h = absurd h
fields-known (field public t rest) (f ∷ fs) (known, others) =
    let k = fields-known rest fs others in
    let a = known.refusal in
    let b = known.nullable in
    let c = known.aligned in
    let d = known.interior in
    let e = k.refusal in
    let g = k.nullable in
    let i = k.aligned in
    let j = k.interior in
    record { refusal = cc; nullable = cc; aligned = cc; interior = cc }

pub record VariantsKnown (variants : Variants) (p : Parts) : Type 0 where
  pub refusal : p.refusal ≡ variant_refusal variants
  pub aligned : p.aligned ≡ some_variant has_align variants
  pub interior : p.interior ≡ some_variant is_cell variants

pub variants-known : (variants : Variants) (facts : List (List Facts)) → AreVariantFacts variants facts → VariantsKnown variants (variants_together facts)
unfolding refusal_of some_part
variants-known no_variants [] h = record { refusal = refl; aligned = refl; interior = refl }
variants-known no_variants (fs ∷ facts) h = absurd h
variants-known (variant value members rest) [] h = absurd h
variants-known (variant value members rest) (fs ∷ facts) (known, others) =
    let k = fields-known members fs known in
    let j = variants-known rest facts others in
    let a = k.refusal in
    let c = k.aligned in
    let d = k.interior in
    let e = j.refusal in
    let g = j.aligned in
    let i = j.interior in
    record { refusal = cc; aligned = cc; interior = cc }

-- ---- where each field has a layout

-- each is aligned to 2^29 bytes at most
abbrev pub AreAligned : List Layout → Type 0
AreAligned [] = Unit {0}
AreAligned (l ∷ ls) = (l.align ≤ 2 ^ 29) × AreAligned ls

abbrev pub AreVariantsAligned : List (List Layout) → Type 0
AreVariantsAligned [] = Unit {0}
AreVariantsAligned (ls ∷ vs) = AreAligned ls × AreVariantsAligned vs

abbrev layout_from : ℕ → ℕ → Layout
layout_from size align = record { size = size; align = align }

same-layout : (l k : Layout) → l.size ≡ k.size → l.align ≡ k.align → l ≡ k
same-layout l k size align = ap (λ (n : ℕ). layout_from n l.align) size ∙ ap (λ (n : ℕ). layout_from k.size n) align

pub record FieldsLaidOut (members : Fields) (fs : List Facts) : Type 0 where
  pub layouts : layouts_in fs ≡ field_layouts members
  pub aligned : AreAligned (field_layouts members)
  pub weights : weights_in fs ≡ field_weights members

pub fields-laid_out : (members : Fields) (fs : List Facts) → AreFactsOf members fs → field_refusal members ≡ None → FieldsLaidOut members fs
unfolding refusal_of layout_of weight_of
fields-laid_out no_fields [] h none = record { layouts = refl; aligned = tt; weights = refl }
fields-laid_out no_fields (f ∷ fs) h none = absurd h
fields-laid_out (field public t rest) [] h none = absurd h
fields-laid_out (field public t rest) (f ∷ fs) (known, others) none =
    let l = known.layout (none-first (refusal_of t) (field_refusal rest) none) in
    let k = fields-laid_out rest fs others (none-second (refusal_of t) (field_refusal rest) none) in
    let align = l.align in
    let weight = l.weight in
    let small = l.aligned in
    let weights = k.weights in
    record {
      layouts = ap (λ x. x ∷ layouts_in fs) (same-layout (layout_in f) (layout_of t) l.size l.align) ∙ ap (λ xs. layout_of t ∷ xs) k.layouts;
      aligned = (omega arith, k.aligned);
      weights = cc;
    }

pub record VariantsLaidOut (variants : Variants) (facts : List (List Facts)) : Type 0 where
  pub layouts : variant_layouts_in facts ≡ variant_layouts variants
  pub aligned : AreVariantsAligned (variant_layouts variants)
  pub weights : variant_weights_in facts ≡ variant_weights variants

pub variants-laid_out : (variants : Variants) (facts : List (List Facts)) → AreVariantFacts variants facts → variant_refusal variants ≡ None → VariantsLaidOut variants facts
unfolding refusal_of layout_of weight_of
variants-laid_out no_variants [] h none = record { layouts = refl; aligned = tt; weights = refl }
variants-laid_out no_variants (fs ∷ facts) h none = absurd h
variants-laid_out (variant value members rest) [] h none = absurd h
variants-laid_out (variant value members rest) (fs ∷ facts) (known, others) none =
    let l = fields-laid_out members fs known (none-first (field_refusal members) (variant_refusal rest) none) in
    let k = variants-laid_out rest facts others (none-second (field_refusal members) (variant_refusal rest) none) in
    let first = l.layouts in
    let layouts = k.layouts in
    let weight = l.weights in
    let weights = k.weights in
    record {
      layouts = cc;
      aligned = (l.aligned, k.aligned);
      weights = cc;
    }

-- the only fields of a struct or a union
pub only-layouts : (facts : List (List Facts)) → layouts_in (only_fields facts) ≡ only (variant_layouts_in facts)
only-layouts [] = refl
only-layouts (fs ∷ facts) = refl
