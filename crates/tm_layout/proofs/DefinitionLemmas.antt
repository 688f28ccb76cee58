-- What is known of a definition's type, from what is known of its fields.
use Rattle.std.proofs.Common.{◌≡◌, ℕ, ◌≤◌, ◌<◌, max, nat_le, nat_lt, ◌==◌, refl, ap, ◌∙◌, subst, Bool, true, false, ◌||◌, ◌&&◌, not, IsTrue, List, [], ◌∷◌, length, arith}
use Rattle.std.proofs.lemmas.Bool.Decides.{nat_tests}
use Rattle.std.specs.List.{list_all}
use Rattle.std.specs.Option.{is_some, is_none}
use Rattle.tm_base.specs.declared.definition.Def.{Def}
use Rattle.tm_base.specs.declared.definition.Kind.{Kind}
use Rattle.tm_base.specs.declared.definition.Kind.TheVariants.{Struct, Union, Enum}
use Rattle.tm_base.specs.declared.definition.Repr.{Repr}
use Rattle.tm_base.specs.declared.definition.Variant.{Variant}
use Rattle.tm_base.specs.declared.ground.NamedId.{NamedId}
use Rattle.tm_base.specs.Expanded.{Variants, named, no_fields, field, no_variants, variant}
use Rattle.tm_base.specs.Faults.{is_nullable, variant_nullable, passes_i32, lacks_repr, lacks_range, has_two_sized, sized_count}
use Rattle.tm_base.specs.Integers.{fits_signed}
use Rattle.tm_base.specs.declared.profile.Profile.{Profile}
use Rattle.tm_base.specs.Layout.{size_of, only, variant_layouts, tag_layout}
use Rattle.tm_base.specs.Weight.{weight_of, variant_weights, sum_from, variants_sum_from, named_weight}
use Rattle.tm_base.specs.Whole.{is_def_in_form, is_repr_in_form, is_alignment, is_absent_or, are_variants_in_form, is_value_in_form, is_tag_in_form, field_total}
use Rattle.tm_layout.specs.declared.facts.Facts.{Facts}
use Rattle.tm_layout.specs.Capped.{capped}
use Rattle.tm_layout.specs.Defined.{passes_i32_in, lacks_range_in, two_sized_in, nullable_in}
use Rattle.tm_layout.specs.Known.{AreVariantFacts, AreVariantsFor}
use Rattle.tm_layout.specs.Reckoned.{variant_layouts_in}
use Rattle.tm_layout.specs.Together.{variants_together}
use Rattle.tm_layout.proofs.KnownLemmas.{fields-known, only-layouts}

-- ---- what the form of a definition says

both-true : (a b : Bool) → (a && b) ≡ true → (a ≡ true) × (b ≡ true)
both-true true b h = (refl, h)
both-true false b h = cc

pub is_equal : (n m : ℕ) → (n == m) ≡ true → n ≡ m
is_equal n m e = grind (arith, nat_tests)

is_below : (n m : ℕ) → nat_lt n m ≡ true → n < m
is_below n m e = grind (arith, nat_tests)

pub record InForm (kind : Kind) (repr : Repr) (vs : List Variant) : Type 0 where
  pub written : is_repr_in_form kind repr vs ≡ true
  pub aligned : is_absent_or is_alignment repr.align ≡ true
  pub counted : are_variants_in_form kind vs ≡ true

pub in_form : (profile : Profile) (def : Def) → IsTrue (is_def_in_form profile def) → InForm def.kind def.repr def.variants
in_form profile def h =
    let fields = (both-true _ (nat_le (field_total def.variants) 256) h).0 in
    let count = (both-true _ (nat_le (length def.variants) 256) fields).0 in
    let values = (both-true _ (list_all (λ v. is_value_in_form profile def.repr.tag v.value) def.variants) count).0 in
    let counted = both-true _ (are_variants_in_form def.kind def.variants) values in
    let aligned = both-true _ (is_absent_or is_alignment def.repr.align) counted.0 in
    let written = both-true (is_repr_in_form def.kind def.repr def.variants) (is_absent_or is_alignment def.repr.packed) aligned.0 in
    record { written = written.0; aligned = aligned.1; counted = counted.1 }

-- ---- faults

passes-same : (vs : List Variant) (cases : Variants) → AreVariantsFor vs cases → passes_i32_in vs ≡ passes_i32 cases
passes-same [] no_variants h = refl
passes-same [] (variant value members rest) h = absurd h
passes-same (v ∷ vs) no_variants h = absurd h
passes-same (v ∷ vs) (variant value members rest) (same, count, others) =
    ap (λ x. not (fits_signed 4 x) || passes_i32_in vs) same ∙ ap (λ b. not (fits_signed 4 value) || b) (passes-same vs rest others)

pub range-same : (kind : Kind) (repr : Repr) (vs : List Variant) (cases : Variants) → AreVariantsFor vs cases → lacks_range_in kind repr vs ≡ lacks_range kind repr cases
range-same Struct repr vs cases h = refl
range-same Union repr vs cases h = refl
range-same Enum repr vs cases h = ap (λ b. repr.c && is_none repr.tag && b) (passes-same vs cases h)

pub two_sized-same : (profile : Profile) (id : NamedId) (kind : Kind) (repr : Repr) (cases : Variants) (facts : List (List Facts)) → variant_layouts_in facts ≡ variant_layouts cases → two_sized_in kind repr facts ≡ has_two_sized (named profile id kind repr cases)
two_sized-same profile id Struct repr cases facts e = ap (λ ls. repr.transparent && nat_le 2 (sized_count ls)) (only-layouts facts ∙ ap only e)
two_sized-same profile id Union repr cases facts e = refl
two_sized-same profile id Enum repr cases facts e = refl

one-nullable : (vs : List Variant) (cases : Variants) (facts : List (List Facts)) → AreVariantsFor vs cases → AreVariantFacts cases facts → length vs ≡ 1 → (variants_together facts).nullable ≡ variant_nullable cases
unfolding is_nullable
one-nullable [] cases facts h k one = absurd (omega arith)
one-nullable (v ∷ vs) no_variants facts h k one = absurd h
one-nullable (v ∷ vs) (variant value members rest) [] h k one = absurd k
one-nullable (v ∷ u ∷ vs) (variant value members rest) (fs ∷ facts) h k one = absurd (omega arith)
one-nullable (v ∷ []) (variant value members (variant value' members' rest)) (fs ∷ facts) (same, count, others) k one = absurd others
one-nullable (v ∷ []) (variant value members no_variants) (fs ∷ gs ∷ facts) h (known, others) one = absurd others
one-nullable (v ∷ []) (variant value members no_variants) (fs ∷ []) h (known, others) one = or_false _ ∙ (fields-known members fs known).nullable where
  or_false : (b : Bool) → (b || false) ≡ b
  or_false true = refl
  or_false false = refl

pub nullable-same : (profile : Profile) (id : NamedId) (kind : Kind) (repr : Repr) (vs : List Variant) (cases : Variants) (facts : List (List Facts)) → AreVariantsFor vs cases → AreVariantFacts cases facts → are_variants_in_form kind vs ≡ true
    → nullable_in kind repr (variants_together facts).nullable ≡ is_nullable (named profile id kind repr cases)
unfolding is_nullable
nullable-same profile id Struct repr vs cases facts h k form = ap (λ b. repr.transparent && b) (one-nullable vs cases facts h k (is_equal (length vs) 1 form))
nullable-same profile id Union repr vs cases facts h k form = refl
nullable-same profile id Enum repr vs cases facts h k form = refl

-- ---- weights

sum_from-capped : (s : ℕ) (ws : List ℕ) → capped (sum_from (max 1 (capped s)) ws) ≡ capped (sum_from (max 1 s) ws)
sum_from-capped s [] = refl
sum_from-capped s (w ∷ ws) = let e = sum_from-capped s ws in omega arith

variants_sum-capped : (s tag : ℕ) (weights : List (List ℕ)) → capped (variants_sum_from (max 1 (capped s)) tag weights) ≡ capped (variants_sum_from (max 1 s) tag weights)
variants_sum-capped s tag [] = refl
variants_sum-capped s tag (ws ∷ weights) = let e = variants_sum-capped s tag weights in omega arith

pub weight-capped : (profile : Profile) (kind : Kind) (repr : Repr) (s : ℕ) (weights : List (List ℕ)) → capped (named_weight profile kind repr (capped s) weights) ≡ capped (named_weight profile kind repr s weights)
weight-capped profile Struct repr s weights = omega arith
weight-capped profile Union repr s weights = sum_from-capped s (only weights)
weight-capped profile Enum repr s weights = variants_sum-capped s (tag_layout profile repr.tag).size weights

-- ---- no more bytes than the weight

union-heavier : (vs : List Variant) (cases : Variants) (s : ℕ) → AreVariantsFor vs cases → length vs ≡ 1 → 0 < field_total vs → s ≤ sum_from (max 1 s) (only (variant_weights cases))
unfolding weight_of
union-heavier [] cases s h one some = absurd (omega arith)
union-heavier (v ∷ vs) no_variants s h one some = absurd h
union-heavier (v ∷ []) (variant value no_fields rest) s (same, count, others) one some = absurd (omega arith)
union-heavier (v ∷ u ∷ vs) (variant value no_fields rest) s h one some = absurd (omega arith)
union-heavier (v ∷ vs) (variant value (field public t members) rest) s h one some = omega arith

enum-heavier : (vs : List Variant) (cases : Variants) (s tag : ℕ) → AreVariantsFor vs cases → 0 < length vs → s ≤ variants_sum_from (max 1 s) tag (variant_weights cases)
unfolding weight_of
enum-heavier [] cases s tag h some = absurd (omega arith)
enum-heavier (v ∷ vs) no_variants s tag h some = absurd h
enum-heavier (v ∷ vs) (variant value members rest) s tag h some = omega arith

pub heavier : (profile : Profile) (id : NamedId) (kind : Kind) (repr : Repr) (vs : List Variant) (cases : Variants) → InForm kind repr vs → AreVariantsFor vs cases → lacks_repr kind repr ≡ false
    → size_of (named profile id kind repr cases) ≤ weight_of (named profile id kind repr cases)
unfolding weight_of
heavier profile id Struct repr vs cases form h has = omega arith
heavier profile id Union repr vs cases form h has = let (one, some) = both-true (length vs == 1) (nat_lt 0 (field_total vs)) form.counted in
    union-heavier vs cases (size_of (named profile id Union repr cases)) h (is_equal (length vs) 1 one) (is_below 0 (field_total vs) some)
heavier profile id Enum repr vs cases form h has =
    let some = (both-true (not repr.transparent && is_none repr.packed && is_none repr.align && is_tag_in_form repr vs repr.tag) (not (repr.c || is_some repr.tag) || nat_lt 0 (length vs)) form.written).1 in
    enum-heavier vs cases (size_of (named profile id Enum repr cases)) (tag_layout profile repr.tag).size h (is_below 0 (length vs) (subst (λ b. (b || nat_lt 0 (length vs)) ≡ true) has some))
