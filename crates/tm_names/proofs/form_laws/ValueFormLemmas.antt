-- The variants of a definition where no fault stands: their discriminants are in range and differ.
use Rattle.std.proofs.Common.{◌≡◌, ◌≢◌, ℕ, suc, ◌+◌, ◌<◌, refl, sym, ap, ◌∙◌, arith, ⊎_elim, Bool, true, false, List, [], ◌∷◌, ◌++◌, length, map, All}
use Rattle.std.specs.Prelude.{ℤ, pos, ◌+ℤ◌, Option, Some, None, AllPairs, not}
use Rattle.std.specs.List.{list_all, list_any}
use Rattle.std.specs.Ordering.{int_eq}
use Rattle.std.proofs.lemmas.Bool.{false≢true, ltb-true, or_cases, or_parts}
use Rattle.std.proofs.lemmas.Bool.Decides.{Decides-int_eq, not_from_Decides}
use Rattle.std.proofs.lemmas.List.{length-append, length-map}
use Rattle.std.proofs.lemmas.List.Elements.{All-map, All-weaker, All-contains_itself}
use Rattle.std.proofs.lemmas.List.Folds.{list_all-map}
use Rattle.std.proofs.lemmas.List.Kept.{AllPairs-cons}
use Rattle.std.proofs.lemmas.List.Sums.{sum_by-cons}
use Rattle.tm_base.specs.declared.definition.Variant.{Variant}
use Rattle.tm_base.specs.declared.ground.Primitive.{Primitive}
use Rattle.tm_base.specs.declared.profile.Profile.{Profile}
use Rattle.tm_base.specs.Whole.{field_total, is_value_in_form}
use Rattle.tm_names.proofs.Members.{Member, member}
use Rattle.tm_names.proofs.form_laws.TypeFormLemmas.{each_passes}
use Rattle.tm_names.proofs.fault_laws.ValueLemmas.{exact_wrong}
use Rattle.tm_names.specs.Discriminants.{Valued, is_in_range, valued_from, value_of}
use Rattle.tm_names.specs.Representations.{has_field}
use Rattle.tm_names.specs.Resolutions.{field_of, variant_of}
use Rattle.tm_parse.specs.Bounds.{fields_of}
use Rattle.tm_parse.specs.declared.parsed.DeclVariant.{DeclVariant}

-- no variant's discriminant is out of range or stands before
abbrev pub AreRight : Profile → Option Primitive → List Valued → Type 0
AreRight profile tag vs = (before : List Valued) (here : Valued) (after : List Valued) → vs ≡ before ++ (here ∷ after) → exact_wrong profile tag before here.value ≡ false

-- what stands before a member, and behind it
split : {X : Type 0} (x : X) (xs : List X) → Member x xs → (before : List X) × (after : List X) × (xs ≡ before ++ (x ∷ after))
split x [] m = absurd m
split x (y ∷ ys) m =
    ⊎_elim (λ e. ([], ys, ap (λ z. z ∷ ys) e)) (λ n. let found = split x ys n in (y ∷ found.0, found.1, ap (λ zs. y ∷ zs) found.2)) m

pub all_of_members : {X : Type 0} (P : X → Type 0) (xs : List X) → ((x : X) → Member x xs → P x) → All P xs
all_of_members P xs each = All-weaker _ P (λ x c. each x (member x xs c)) xs (All-contains_itself xs)

pub in_range : (profile : Profile) (tag : Option Primitive) (vs : List Valued) → AreRight profile tag vs → (v : Valued) → Member v vs → is_in_range profile tag v.value ≡ true
in_range profile tag vs right v m =
    let (before, after, e) = split v vs m in
    no_fault (is_in_range profile tag v.value) (or_parts _ _ (right before v after e)).0
  where
    no_fault : (b : Bool) → not b ≡ false → b ≡ true
    no_fault true h = refl
    no_fault false h = sym h

in_form : (profile : Profile) (tag : Option Primitive) (z : ℤ) → is_in_range profile tag z ≡ true → is_value_in_form profile tag z ≡ true
in_form profile None z h = h
in_form profile (Some p) z h = h

module _ (name : ℕ → List ℕ) where
  pub values_in_form : (profile : Profile) (tag : Option Primitive) (vs : List Valued) → AreRight profile tag vs → list_all (λ v. is_value_in_form profile tag v.value) (map (variant_of name) vs) ≡ true
  values_in_form profile tag vs right =
      list_all-map (λ v. is_value_in_form profile tag v.value) (variant_of name) vs
      ∙ each_passes (λ v. is_value_in_form profile tag v.value) vs (λ v m. in_form profile tag v.value (in_range profile tag vs right v m))

  abbrev Differ : Variant → Variant → Type 0
  Differ v u = v.value ≢ u.value

  -- none stands among those before
  abbrev Fresh : List Valued → Type 0
  Fresh vs = (before : List Valued) (here : Valued) (after : List Valued) → vs ≡ before ++ (here ∷ after) → list_any (λ v. int_eq v.value here.value) before ≡ false

  values_differ : (vs : List Valued) → Fresh vs → AllPairs Differ (map (variant_of name) vs)
  values_differ [] fresh = λ i j d l m. absurd (omega (arith, m))
  values_differ (x ∷ xs) fresh =
      AllPairs-cons Differ (variant_of name x) (map (variant_of name) xs)
      (All-map (Differ (variant_of name x)) (variant_of name) xs (all_of_members (λ u. x.value ≢ u.value) xs apart))
      (values_differ xs (λ before here after e. (or_parts _ _ (fresh (x ∷ before) here after (ap (λ others. x ∷ others) e))).1))
    where
      apart : (u : Valued) → Member u xs → x.value ≢ u.value
      apart u m =
          let (before, after, e) = split u xs m in
          not_from_Decides (int_eq x.value u.value) (Decides-int_eq x.value u.value) (or_parts _ _ (fresh (x ∷ before) u after (ap (λ others. x ∷ others) e))).0

  pub values_apart : (profile : Profile) (tag : Option Primitive) (vs : List Valued) → AreRight profile tag vs → AllPairs Differ (map (variant_of name) vs)
  values_apart profile tag vs right = values_differ vs (λ before here after e. (or_parts _ _ (right before here after e)).1)

  -- as many variants, and as many fields in all of them
  pub as_many : (z : ℤ) (vs : List DeclVariant) → length (map (variant_of name) (valued_from z vs)) ≡ length vs
  as_many z [] = refl
  as_many z (v ∷ vs) = ap (λ n. suc n) (as_many (value_of z v +ℤ pos 1) vs)

  pub as_full : (z : ℤ) (vs : List DeclVariant) → field_total (map (variant_of name) (valued_from z vs)) ≡ length (fields_of vs)
  as_full z [] = refl
  as_full z (v ∷ vs) =
      let rest = as_full (value_of z v +ℤ pos 1) vs in
      let first : field_total (map (variant_of name) (valued_from z (v ∷ vs))) ≡ length (map (field_of name) v.fields) + field_total (map (variant_of name) (valued_from (value_of z v +ℤ pos 1) vs))
      = sum_by-cons (λ n. n) (length (map (field_of name) v.fields)) (map (λ u. length u.fields) (map (variant_of name) (valued_from (value_of z v +ℤ pos 1) vs))) in
      let all : length (fields_of (v ∷ vs)) ≡ length v.fields + length (fields_of vs) = length-append v.fields (fields_of vs) in
      omega (arith, length-map v.fields (field_of name))

pub fields_within : (vs : List DeclVariant) → has_field vs ≡ true → 0 < length (fields_of vs)
fields_within [] h = absurd (false≢true h)
fields_within (v ∷ vs) h =
    let all : length (fields_of (v ∷ vs)) ≡ length v.fields + length (fields_of vs) = length-append v.fields (fields_of vs) in
    ⊎_elim (λ e. let some = ltb-true 0 (length v.fields) e in omega arith) (λ e. let rest = fields_within vs e in omega arith) (or_cases _ _ h)

pub variants_within : (vs : List DeclVariant) → has_field vs ≡ true → 0 < length vs
variants_within [] h = absurd (false≢true h)
variants_within (v ∷ vs) h = omega arith
