-- Fields and variants that are matched one after another.
use Rattle.std.proofs.Common.{◌≡◌, ℕ, zero, suc, ◌+◌, ◌-◌, ◌<◌, ◌≤◌, refl, sym, ◌∙◌, ap, Bool, true, false, ◌&&◌, ◌||◌, List, [], ◌∷◌, length, take, drop, get_or, Option, None, Some, slice_get, unwrap_or, arith}
use Rattle.std.specs.List.{list_all}
use Rattle.std.specs.Option.{option_and_then}
use Rattle.std.proofs.lemmas.List.{drop_all, drop_more}
use Rattle.std.proofs.lemmas.Option.{get_or_from_slice_get, slice_get_within}
use Rattle.tm_base.specs.declared.definition.Repr.{Repr}
use Rattle.tm_base.specs.declared.definition.Variant.{Variant}
use Rattle.tm_base.specs.declared.ground.Ground.{Ground}
use Rattle.tm_base.specs.declared.profile.Profile.{Profile}
use Rattle.tm_base.specs.Cells.{Word}
use Rattle.tm_base.specs.Expanded.{Expanded, elements, fields_of, variants_of}
use Rattle.tm_base.specs.Layout.{field_layouts, size_of, tag_layout}
use Rattle.tm_base.specs.Places.{variant_places}
use Rattle.tm_base.specs.ValidTest.{is_free}
use Rattle.tm_check.specs.Begins.{begins, fields_begin, some_field_begins, some_variant_begins, times_begin}
use Rattle.tm_check.specs.Numbers.{tag_begins}

-- what is left of a list at a place begins with the item there
left_at : {X : Type 0} (xs : List X) (i : ℕ) (x : X) → i < length xs → x ≡ get_or xs i x → drop i xs ≡ x ∷ drop (i + 1) xs
left_at xs i x below is = drop_more xs i x below ∙ ap (λ y. y ∷ drop (i + 1) xs) (sym is)

-- what is there isn't past the end
pub none-inside : {X : Type 0} (xs : List X) (i : ℕ) → i < length xs → slice_get xs i ≡ None → ⊥
none-inside [] i below none = absurd (omega arith)
none-inside (x ∷ xs) zero below none = cc
none-inside (x ∷ xs) (suc i) below none = none-inside xs i (omega arith) none

-- a field that stands somewhere has that place
pub placed-in : (o : Option (List ℕ)) (i p : ℕ) → slice_get (unwrap_or o []) i ≡ Some p → option_and_then (λ fields. slice_get fields i) o ≡ Some p
placed-in None i p at = cc
placed-in (Some ps) i p at = at

module _ (part : Ground → Expanded) (A : ℕ → ℕ → Bool) (keep : Bool) where
  -- the next of the fields that are left
  pub field-next : (ps : List ℕ) (types : List Ground) (i : ℕ) (g : Ground) (at : ℕ) (w : Word) → length ps ≡ length types → i < length types → g ≡ get_or types i g
      → fields_begin A keep at (drop i ps) (elements part (drop i types)) w
      ≡ (list_all is_free (take (get_or ps i 0 - at) w)
      && (begins A keep (part g) (take (size_of (part g)) (drop (get_or ps i 0 - at) w))
      && fields_begin A keep (get_or ps i 0 + size_of (part g)) (drop (i + 1) ps) (elements part (drop (i + 1) types)) (drop (size_of (part g)) (drop (get_or ps i 0 - at) w))))
  unfolding begins
  field-next ps types i g at w count below is =
      ap (λ qs. fields_begin A keep at qs (elements part (drop i types)) w) (drop_more ps i 0 (omega arith))
      ∙ ap (λ gs. fields_begin A keep at (get_or ps i 0 ∷ drop (i + 1) ps) (elements part gs) w) (left_at types i g below is)

  pub fields-end : (ps : List ℕ) (types : List Ground) (i at : ℕ) (w : Word) → length types ≤ i → fields_begin A keep at (drop i ps) (elements part (drop i types)) w ≡ list_all is_free w
  unfolding begins
  fields-end ps types i at w past = ap (λ gs. fields_begin A keep at (drop i ps) (elements part gs) w) (drop_all i types past)

  pub some-next : (types : List Ground) (i : ℕ) (g : Ground) (w : Word) → i < length types → g ≡ get_or types i g
      → some_field_begins A keep (elements part (drop i types)) w
      ≡ ((begins A keep (part g) (take (size_of (part g)) w) && list_all is_free (drop (size_of (part g)) w)) || some_field_begins A keep (elements part (drop (i + 1) types)) w)
  unfolding begins
  some-next types i g w below is = ap (λ gs. some_field_begins A keep (elements part gs) w) (left_at types i g below is)

  pub some-end : (types : List Ground) (i : ℕ) (w : Word) → length types ≤ i → some_field_begins A keep (elements part (drop i types)) w ≡ false
  unfolding begins
  some-end types i w past = ap (λ gs. some_field_begins A keep (elements part gs) w) (drop_all i types past)

  pub variants-next : (profile : Profile) (repr : Repr) (begin : ℕ) (vs : List Variant) (types : List (List Ground)) (i : ℕ) (v : Variant) (gs : List Ground) (w : Word)
      → i < length vs → v ≡ get_or vs i v → slice_get types i ≡ Some gs
      → some_variant_begins A keep profile repr begin (variants_of part (drop i vs) (drop i types)) w
      ≡ ((tag_begins profile (tag_layout profile repr.tag).size v.value (take (tag_layout profile repr.tag).size w)
      && fields_begin A keep (tag_layout profile repr.tag).size (variant_places profile repr begin (field_layouts (fields_of part v.fields gs))) (fields_of part v.fields gs) (drop (tag_layout profile repr.tag).size w))
      || some_variant_begins A keep profile repr begin (variants_of part (drop (i + 1) vs) (drop (i + 1) types)) w)
  unfolding begins
  variants-next profile repr begin vs types i v gs w below is at =
      ap (λ us. some_variant_begins A keep profile repr begin (variants_of part us (drop i types)) w) (left_at vs i v below is)
      ∙ ap (λ hs. some_variant_begins A keep profile repr begin (variants_of part (v ∷ drop (i + 1) vs) hs) w) (left_at types i gs (slice_get_within types i gs at) (sym (get_or_from_slice_get types i gs gs at)))

  pub variants-end : (profile : Profile) (repr : Repr) (begin : ℕ) (vs : List Variant) (types : List (List Ground)) (i : ℕ) (w : Word) → length vs ≤ i
      → some_variant_begins A keep profile repr begin (variants_of part (drop i vs) (drop i types)) w ≡ false
  unfolding begins
  variants-end profile repr begin vs types i w past = ap (λ us. some_variant_begins A keep profile repr begin (variants_of part us (drop i types)) w) (drop_all i vs past)

-- ---- tests in turn

-- the first of three tests in turn fails, and so do all
pub first-fails : (f b r state all : Bool) → state ≡ (f && (b && r)) → state ≡ all → f ≡ false → false ≡ all
first-fails f b r state all e is fail = ap (λ x. x && (b && r)) (sym fail) ∙ sym e ∙ is

pub second-fails : (f b r state all : Bool) → state ≡ (f && (b && r)) → state ≡ all → f ≡ true → b ≡ false → false ≡ all
second-fails f b r state all e is pass fail = ap (λ x. x && r) (sym fail) ∙ ap (λ x. x && (b && r)) (sym pass) ∙ sym e ∙ is

-- the first two hold, and the third decides
pub third-decides : (f b r state all : Bool) → state ≡ (f && (b && r)) → state ≡ all → f ≡ true → b ≡ true → r ≡ all
third-decides f b r state all e is pass too = ap (λ x. x && r) (sym too) ∙ ap (λ x. x && (b && r)) (sym pass) ∙ sym e ∙ is

-- one of two ways is open, and so is one of all
pub way-open : (f b r state all : Bool) → state ≡ ((f && b) || r) → state ≡ all → f ≡ true → b ≡ true → true ≡ all
way-open f b r state all e is pass too = ap (λ x. x || r) (sym too) ∙ ap (λ x. (x && b) || r) (sym pass) ∙ sym e ∙ is

-- it is closed, and the others decide
pub first-closed : (f b r state all : Bool) → state ≡ ((f && b) || r) → state ≡ all → f ≡ false → r ≡ all
first-closed f b r state all e is fail = ap (λ x. (x && b) || r) (sym fail) ∙ sym e ∙ is

pub second-closed : (f b r state all : Bool) → state ≡ ((f && b) || r) → state ≡ all → f ≡ true → b ≡ false → r ≡ all
second-closed f b r state all e is pass fail = ap (λ x. x || r) (sym fail) ∙ ap (λ x. (x && b) || r) (sym pass) ∙ sym e ∙ is

-- what may not be made has no words
pub unmade : (m made x : Bool) → m ≡ made → m ≡ false → m ≡ (made && x)
unmade m made x e f = f ∙ ap (λ b. b && x) (sym f ∙ e)

pub made-so : (r m made x : Bool) → r ≡ x → m ≡ made → m ≡ true → r ≡ (made && x)
made-so r m made x is e t = is ∙ ap (λ b. b && x) (sym t ∙ e)

-- ---- elements

pub times-next : (left size : ℕ) (test : Word → Bool) (w : Word) → 0 < left → times_begin left size test w ≡ (test (take size w) && times_begin (left - 1) size test (drop size w))
times-next zero size test w some = absurd (omega arith)
times-next (suc left) size test w some = ap (λ (n : ℕ). test (take size w) && times_begin n size test (drop size w)) less where
  less : left ≡ suc left - 1
  less = omega arith

none-taken : (n : ℕ) → let none : Word = [] in take n none ≡ none
none-taken zero = refl
none-taken (suc n) = refl

none-dropped : (n : ℕ) → let none : Word = [] in drop n none ≡ none
none-dropped zero = refl
none-dropped (suc n) = refl

and-same : (b : Bool) → (b && b) ≡ b
and-same true = refl
and-same false = refl

-- elements that no cell reaches have one word, or none has any
pub times-none : (left size : ℕ) (test : Word → Bool) → 0 < left → times_begin left size test [] ≡ test []
times-none zero size test some = absurd (omega arith)
times-none (suc zero) size test some = ap (λ u. test u && true) (none-taken size) ∙ and-true (test []) where
  and-true : (b : Bool) → (b && true) ≡ b
  and-true true = refl
  and-true false = refl
times-none (suc (suc left)) size test some =
    ap (λ u. test u && times_begin (suc left) size test (drop size [])) (none-taken size)
    ∙ ap (λ u. test [] && times_begin (suc left) size test u) (none-dropped size)
    ∙ ap (λ b. test [] && b) (times-none (suc left) size test (omega arith)) ∙ and-same (test [])

-- one element more, and those that are left
pub times-step : (left size n : ℕ) (test : Word → Bool) (w u v : Word) (b all : Bool) → 0 < left → n ≡ size → u ≡ take n w → v ≡ drop n w → b ≡ test u → b ≡ true
    → times_begin left size test w ≡ all → times_begin (left - 1) size test v ≡ all
times-step left size n test w u v b all some e first behind here pass is =
    let one : test (take size w) ≡ true = ap (λ (k : ℕ). test (take k w)) (sym e) ∙ ap test (sym first) ∙ sym here ∙ pass in
    ap (times_begin (left - 1) size test) (behind ∙ ap (λ (k : ℕ). drop k w) e)
    ∙ ap (λ x. x && times_begin (left - 1) size test (drop size w)) (sym one) ∙ sym (times-next left size test w some) ∙ is

-- no cell is left
pub times-stop : (left size : ℕ) (test : Word → Bool) (w : Word) (b all : Bool) → (left ≡ 0 → ⊥) → length w ≡ 0 → b ≡ test w → times_begin left size test w ≡ all → b ≡ all
times-stop zero size test w b all some none here is = absurd (some refl)
times-stop (suc left) size test [] b all some none here is = here ∙ sym (times-none (suc left) size test (omega arith)) ∙ is
times-stop (suc left) size test (c ∷ w) b all some none here is = absurd (omega arith)
