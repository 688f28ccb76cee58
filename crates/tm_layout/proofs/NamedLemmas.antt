-- What is known of a named type, from what is known of the fields of its definition.
use Rattle.std.proofs.Common.{◌<◌, [], ◌∷◌, map, length, ◌≡◌, ℕ, ◌^◌, ◌≤◌, refl, sym, ap, ◌∙◌, Bool, true, false, ◌||◌, ◌&&◌, Option, None, List, arith}
use Rattle.std.specs.Option.{is_some, option_or}
use Rattle.tm_base.specs.declared.answer.Why.{Why}
use Rattle.tm_base.specs.declared.answer.Why.TheVariants.{NoRepr, CEnumRange, TransparentFields, PackedHoldsAlign}
use Rattle.tm_base.specs.declared.definition.Kind.{Kind}
use Rattle.tm_base.specs.declared.definition.Kind.TheVariants.{Struct, Union, Enum}
use Rattle.tm_base.specs.declared.definition.Repr.{Repr}
use Rattle.tm_base.specs.declared.definition.Variant.{Variant}
use Rattle.tm_base.specs.declared.ground.NamedId.{NamedId}
use Rattle.tm_base.specs.Expanded.{Variants, named, no_variants, variant}
use Rattle.tm_base.specs.Faults.{fault_of, has_cause, own_fault, layout_fault, has_two_sized, lacks_repr, lacks_range, has_align, when, or_else}
use Rattle.tm_base.specs.declared.profile.Profile.{Profile}
use Rattle.tm_base.specs.Layout.{layout_of, size_of, align_of, named_layout, variant_layouts}
use Rattle.tm_base.specs.Parts.{some_part, some_variant}
use Rattle.tm_base.specs.Places.{named_places}
use Rattle.tm_base.specs.Weight.{named_weight, weight_of, weight_limit}
use Rattle.tm_layout.specs.declared.facts.Facts.{Facts}
use Rattle.tm_layout.specs.Capped.{capped, first_fault, weight_fault}
use Rattle.tm_layout.specs.Defined.{lacks_range_in, two_sized_in, layout_fault_in, nullable_in}
use Rattle.tm_layout.specs.Known.{AreVariantFacts, AreVariantsFor, HasLayout, IsFactsOf}
use Rattle.tm_layout.specs.Placed.{begin_in, variant_places_in}
use Rattle.tm_layout.specs.Reckoned.{variant_layouts_in, variant_weights_in}
use Rattle.tm_layout.specs.Refusals.{refusal_of, variant_refusal}
use Rattle.tm_layout.specs.Together.{variants_together}
use Rattle.tm_layout.proofs.FactLemmas.{capped-past, composed-facts, light-from}
use Rattle.tm_layout.proofs.DefinitionLemmas.{InForm, is_equal, range-same, two_sized-same, nullable-same, weight-capped, heavier}
use Rattle.tm_layout.proofs.KnownLemmas.{variants-known, VariantsLaidOut, variants-laid_out}
use Rattle.tm_layout.proofs.LightLemmas.{named-small}
use Rattle.tm_layout.proofs.PlaceLemmas.{map-same, variants-exact, begin-exact}
use Rattle.tm_layout.proofs.RefusalLemmas.{none-first, none-second, variants-refused}

-- the facts of a definition, as they are reckoned
pub record IsReckoned (profile : Profile) (kind : Kind) (repr : Repr) (vs : List Variant) (facts : List (List Facts)) (r : Facts) : Type 0 where
  pub fault : r.fault ≡ first_fault (or_else (when (lacks_repr kind repr) NoRepr) (when (lacks_range_in kind repr vs) CEnumRange)) (variants_together facts).refusal
      (layout_fault_in kind repr facts (variants_together facts).aligned r.weight)
  pub refusal : r.refusal ≡ option_or r.fault (variants_together facts).refusal
  pub nullable : r.nullable ≡ nullable_in kind repr (variants_together facts).nullable
  pub aligned : r.aligned ≡ (is_some repr.align || (variants_together facts).aligned)
  pub interior : r.interior ≡ (variants_together facts).interior
  pub size : r.size ≡ capped (named_layout profile kind repr (variant_layouts_in facts)).size
  pub align : r.align ≡ (named_layout profile kind repr (variant_layouts_in facts)).align
  pub weight : r.weight ≡ capped (named_weight profile kind repr r.size (variant_weights_in facts))

lacks-none : (b : Bool) (other : Option Why) → or_else (when b NoRepr) other ≡ None → b ≡ false
lacks-none true other h = cc
lacks-none false other h = refl

sound-has : (profile : Profile) (id : NamedId) (kind : Kind) (repr : Repr) (cases : Variants) → fault_of (named profile id kind repr cases) ≡ None → lacks_repr kind repr ≡ false
unfolding fault_of
sound-has profile id kind repr cases sound = lacks-none (lacks_repr kind repr) (when (lacks_range kind repr cases) CEnumRange) (none-first (own_fault (named profile id kind repr cases)) _ sound)

module _ (profile : Profile) (id : NamedId) (kind : Kind) (repr : Repr) (vs : List Variant) (cases : Variants) (facts : List (List Facts)) (r : Facts) where
  own-same : AreVariantsFor vs cases → or_else (when (lacks_repr kind repr) NoRepr) (when (lacks_range_in kind repr vs) CEnumRange) ≡ own_fault (named profile id kind repr cases)
  own-same h = ap (λ b. or_else (when (lacks_repr kind repr) NoRepr) (when b CEnumRange)) (range-same kind repr vs cases h)

  below-same : AreVariantFacts cases facts → some_part has_cause (named profile id kind repr cases) ≡ is_some (variants_together facts).refusal
  unfolding some_part
  below-same k = sym (variants-refused cases) ∙ ap is_some (sym (variants-known cases facts k).refusal)

  refusal-same : AreVariantFacts cases facts → refusal_of (named profile id kind repr cases) ≡ or_else (fault_of (named profile id kind repr cases)) (variants_together facts).refusal
  unfolding refusal_of
  refusal-same k = ap (λ x. or_else (fault_of (named profile id kind repr cases)) x) (sym (variants-known cases facts k).refusal)

  size-same : IsReckoned profile kind repr vs facts r → VariantsLaidOut cases facts → r.size ≡ capped (size_of (named profile id kind repr cases))
  unfolding layout_of
  size-same known l = known.size ∙ ap (λ ls. capped (named_layout profile kind repr ls).size) l.layouts

  align-same : IsReckoned profile kind repr vs facts r → VariantsLaidOut cases facts → r.align ≡ align_of (named profile id kind repr cases)
  unfolding layout_of
  align-same known l = known.align ∙ ap (λ ls. (named_layout profile kind repr ls).align) l.layouts

  weight-same : IsReckoned profile kind repr vs facts r → AreVariantFacts cases facts → variant_refusal cases ≡ None → r.weight ≡ capped (weight_of (named profile id kind repr cases))
  unfolding weight_of
  weight-same known k none =
      let l = variants-laid_out cases facts k none in
      known.weight ∙ ap (λ (n : ℕ). capped (named_weight profile kind repr n (variant_weights_in facts))) (size-same known l)
      ∙ weight-capped profile kind repr (size_of (named profile id kind repr cases)) (variant_weights_in facts)
      ∙ ap (λ ws. capped (named_weight profile kind repr (size_of (named profile id kind repr cases)) ws)) l.weights

  layout_fault-same : IsReckoned profile kind repr vs facts r → AreVariantFacts cases facts → variant_refusal cases ≡ None
      → layout_fault_in kind repr facts (variants_together facts).aligned r.weight ≡ layout_fault (named profile id kind repr cases)
  unfolding some_part
  layout_fault-same known k none =
      let t = named profile id kind repr cases in
      let sized : two_sized_in kind repr facts ≡ has_two_sized t = two_sized-same profile id kind repr cases facts (variants-laid_out cases facts k none).layouts in
      let aligned : (variants_together facts).aligned ≡ some_variant has_align cases = (variants-known cases facts k).aligned in
      let weight : weight_fault r.weight ≡ weight_fault (weight_of t) = ap weight_fault (weight-same known k none) ∙ capped-past (weight_of t) in
      ap (λ b. or_else (when b TransparentFields) (or_else (when (is_some repr.packed && (variants_together facts).aligned) PackedHoldsAlign) (weight_fault r.weight))) sized
      ∙ ap (λ b. or_else (when (has_two_sized t) TransparentFields) (or_else (when (is_some repr.packed && b) PackedHoldsAlign) (weight_fault r.weight))) aligned
      ∙ ap (λ x. or_else (when (has_two_sized t) TransparentFields) (or_else (when (is_some repr.packed && some_variant has_align cases) PackedHoldsAlign) x)) weight

  align-most : InForm kind repr vs → VariantsLaidOut cases facts → align_of (named profile id kind repr cases) ≤ 2 ^ 29
  unfolding layout_of
  align-most form l = named-small profile kind repr (variant_layouts cases) form.aligned l.aligned

  laid_out : InForm kind repr vs → AreVariantsFor vs cases → AreVariantFacts cases facts → IsReckoned profile kind repr vs facts r → variant_refusal cases ≡ None → fault_of (named profile id kind repr cases) ≡ None
      → weight_of (named profile id kind repr cases) ≤ weight_limit → HasLayout (named profile id kind repr cases) r
  laid_out form h k known none sound small =
      let t = named profile id kind repr cases in
      let l = variants-laid_out cases facts k none in
      let has : lacks_repr kind repr ≡ false = sound-has profile id kind repr cases sound in
      let heavy : size_of t ≤ weight_of t = heavier profile id kind repr vs cases form h has in
      let size : r.size ≡ capped (size_of t) = size-same known l in
      let align : r.align ≡ align_of t = align-same known l in
      let weight : r.weight ≡ capped (weight_of t) = weight-same known k none in
      let most : align_of t ≤ 2 ^ 29 = align-most form l in
      record { size = omega arith; align = align; weight = omega arith; light = omega arith; heavier = omega arith; aligned = omega arith }

  pub named-facts : InForm kind repr vs → AreVariantsFor vs cases → AreVariantFacts cases facts → IsReckoned profile kind repr vs facts r → IsFactsOf (named profile id kind repr cases) r
  unfolding some_part
  named-facts form h k known =
      let below = variants-known cases facts k in
      composed-facts (named profile id kind repr cases) r (variants_together facts).refusal (layout_fault_in kind repr facts (variants_together facts).aligned r.weight)
      (below-same k) (refusal-same k) (λ none. layout_fault-same known k (sym below.refusal ∙ none))
      (known.fault ∙ ap (λ x. first_fault x (variants_together facts).refusal (layout_fault_in kind repr facts (variants_together facts).aligned r.weight)) (own-same h))
      known.refusal (known.nullable ∙ nullable-same profile id kind repr vs cases facts h k form.counted)
      (known.aligned ∙ ap (λ b. is_some repr.align || b) below.aligned) (known.interior ∙ below.interior)
      (λ none sound small. laid_out form h k known (sym below.refusal ∙ none) sound small)

-- ---- places

-- a type that has a layout has no more bytes than may be
pub size-light : (profile : Profile) (id : NamedId) (kind : Kind) (repr : Repr) (vs : List Variant) (cases : Variants) → InForm kind repr vs → AreVariantsFor vs cases → refusal_of (named profile id kind repr cases) ≡ None
    → (named_layout profile kind repr (variant_layouts cases)).size ≤ weight_limit
unfolding refusal_of some_part layout_of
size-light profile id kind repr vs cases form h none =
    let t = named profile id kind repr cases in
    let sound : fault_of t ≡ None = none-first (fault_of t) (variant_refusal cases) none in
    let below : some_part has_cause t ≡ false = sym (variants-refused cases) ∙ ap is_some (none-second (fault_of t) (variant_refusal cases) none) in
    let small : weight_of t ≤ weight_limit = light-from t below sound in
    let heavy : size_of t ≤ weight_of t = heavier profile id kind repr vs cases form h (sound-has profile id kind repr cases sound) in
    omega arith

layouts-length : (vs : List Variant) (cases : Variants) → AreVariantsFor vs cases → length (variant_layouts cases) ≡ length vs
unfolding layout_of
layouts-length [] no_variants h = refl
layouts-length [] (variant value members rest) h = absurd h
layouts-length (v ∷ vs) no_variants h = absurd h
layouts-length (v ∷ vs) (variant value members rest) (same, count, others) = let e = layouts-length vs rest others in omega arith

one-struct : (kind : Kind) (repr : Repr) (vs : List Variant) (cases : Variants) → InForm kind repr vs → AreVariantsFor vs cases → kind ≡ Struct → length (variant_layouts cases) ≡ 1
one-struct Struct repr vs cases form h e = layouts-length vs cases h ∙ is_equal (length vs) 1 form.counted
one-struct Union repr vs cases form h e = cc
one-struct Enum repr vs cases form h e = cc

in-all : (profile : Profile) (kind : Kind) (repr : Repr) (cases : Variants) → map (λ ls. variant_places_in profile kind repr (begin_in profile kind repr (variant_layouts cases)) ls) (variant_layouts cases) ≡ named_places profile kind repr cases
in-all profile Struct repr cases = refl
in-all profile Union repr cases = refl
in-all profile Enum repr cases = refl

pub places-exact : (profile : Profile) (id : NamedId) (kind : Kind) (repr : Repr) (vs : List Variant) (cases : Variants) (facts : List (List Facts)) (begin : ℕ) → InForm kind repr vs → AreVariantsFor vs cases → AreVariantFacts cases facts
    → refusal_of (named profile id kind repr cases) ≡ None → begin ≡ capped (begin_in profile kind repr (variant_layouts_in facts))
    → map (λ ls. map capped (variant_places_in profile kind repr begin ls)) (variant_layouts_in facts) ≡ named_places profile kind repr cases
unfolding refusal_of
places-exact profile id kind repr vs cases facts begin form h k none b =
    let l = variants-laid_out cases facts k (none-second (fault_of (named profile id kind repr cases)) (variant_refusal cases) none) in
    let all = variant_layouts cases in
    let exact : begin ≡ begin_in profile kind repr all = b ∙ ap (λ ls. capped (begin_in profile kind repr ls)) l.layouts ∙ begin-exact profile kind repr all l.aligned in
    let light = size-light profile id kind repr vs cases form h none in
    let small : (named_layout profile kind repr all).size < 2 ^ 32 = omega arith in
    ap (λ ls. map (λ ls. map capped (variant_places_in profile kind repr begin ls)) ls) l.layouts
    ∙ ap (λ (n : ℕ). map (λ ls. map capped (variant_places_in profile kind repr n ls)) all) exact
    ∙ map-same (λ ls. map capped (variant_places_in profile kind repr (begin_in profile kind repr all) ls)) (λ ls. variant_places_in profile kind repr (begin_in profile kind repr all) ls) all
    (variants-exact profile kind repr all (one-struct kind repr vs cases form h) small)
    ∙ in-all profile kind repr cases
