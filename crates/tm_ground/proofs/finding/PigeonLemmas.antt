-- Distinct types that are all in a list are at most as many as the list has.
use Rattle.std.proofs.Common.{◌≡◌, ◌≢◌, ℕ, zero, suc, ◌+◌, ◌<◌, ◌≤◌, sym, ◌∙◌, ⊎_elim, ◌⊎◌, inl, inr, List, [], ◌∷◌, length, get_or, Contains, Some, slice_get, arith}
use Rattle.std.specs.List.Sorted.{IsPermutation}
use Rattle.std.proofs.lemmas.List.{get_or_default}
use Rattle.std.proofs.lemmas.List.Sorted.{All-permutation, Contains-permutation, length_permutation}
use Rattle.std.proofs.lemmas.List.Elements.{All-contains}
use Rattle.tm_base.specs.Whole.{AreDistinct}
use Rattle.tm_ground.specs.Closed.{Closed}
use Rattle.tm_ground.specs.Closing.{ListsAllWithin}
use Rattle.tm_ground.specs.Growing.{IsWithin}
use Rattle.tm_ground.specs.Limits.{AreMoreThan}
use Rattle.tm_ground.proofs.finding.ContainsLemmas.{contains-nothing, contains-first, contains-behind, contains-at}

-- the list without the type at a place
without : ℕ → List Closed → List Closed
without k [] = []
without zero (y ∷ ys) = ys
without (suc k) (y ∷ ys) = y ∷ without k ys

length-without : (k : ℕ) (ys : List Closed) → k < length ys → length (without k ys) + 1 ≡ length ys
unfolding without
length-without k [] h = absurd (omega (arith, h))
length-without zero (y ∷ ys) h = omega arith
length-without (suc k) (y ∷ ys) h = omega (arith, length-without k ys (omega (arith, h)))

without-contains : (k : ℕ) (ys : List Closed) (x z : Closed) → slice_get ys k ≡ Some x → Contains ys z → z ≢ x → Contains (without k ys) z
unfolding without
without-contains k [] x z at h apart = absurd (contains-nothing z h)
without-contains zero (y ∷ ys) x z at (zero, l, e) apart =
    let same : y ≡ x = cc in
    absurd (apart (sym e ∙ same))
without-contains zero (y ∷ ys) x z at (suc j, l, e) apart = (j, omega (arith, l), e)
without-contains (suc k) (y ∷ ys) x z at (zero, l, e) apart = (0, omega arith, e)
without-contains (suc k) (y ∷ ys) x z at (suc j, l, e) apart = contains-behind y _ z (without-contains k ys x z at (j, omega (arith, l), e) apart)

pub distinct-tail : (x : Closed) (xs : List Closed) → AreDistinct (x ∷ xs) → AreDistinct xs
distinct-tail x xs h = record { apart = λ i j d k l. h.apart (suc i) (suc j) d (omega (arith, k)) (omega (arith, l)) }

pub distinct-head : (x : Closed) (xs : List Closed) → AreDistinct (x ∷ xs) → (z : Closed) → Contains xs z → z ≢ x
distinct-head x xs h z (j, l, e) = λ same. h.apart 0 (suc j) z (omega arith) (omega (arith, l)) (sym same ∙ sym e)

pub at-most : (xs ys : List Closed) → AreDistinct xs → IsWithin xs ys → length xs ≤ length ys
at-most [] ys d w = omega arith
at-most (x ∷ xs) ys d w =
    let (k, l, e) = contains-at ys x (w.within x (contains-first x xs)) in
    let rest : IsWithin xs (without k ys) = record { within = λ z h. without-contains k ys x z e (w.within z (contains-behind x xs z h)) (distinct-head x xs d z h) } in
    let fewer = at-most xs (without k ys) (distinct-tail x xs d) rest in
    omega (arith, fewer, length-without k ys l)

-- where all are found, there aren't more
pub whole-fits : (limit : ℕ) (P : Closed → Type 0) (found : List Closed) → ListsAllWithin limit P found → ¬ AreMoreThan limit P
whole-fits limit P found w = λ more.
    let inside : IsWithin more.found found = record { within = λ c h. w.all.complete c (All-contains P more.found c more.each h) } in
    let fewer = at-most more.found found more.distinct inside in
    omega (arith, fewer, more.count, w.few)

-- what stands before a place stays where that place is left out
kept-before : (i j : ℕ) (ys : List Closed) (z : Closed) → i < j → j < length ys → get_or ys i z ≡ z → Contains (without j ys) z
unfolding without
kept-before i j [] z k l e = absurd (omega (arith, l))
kept-before i zero (y ∷ ys) z k l e = absurd (omega (arith, k))
kept-before zero (suc j) (y ∷ ys) z k l e = (0, omega arith, e)
kept-before (suc i) (suc j) (y ∷ ys) z k l e = contains-behind y _ z (kept-before i j ys z (omega (arith, k)) (omega (arith, l)) e)

-- a type of the list stands elsewhere too, or at that place
elsewhere : (j k : ℕ) (ys : List Closed) (z : Closed) → k < length ys → get_or ys k z ≡ z → Contains (without j ys) z ⊎ (get_or ys j z ≡ z)
unfolding without
elsewhere j k [] z l e = absurd (omega (arith, l))
elsewhere zero zero (y ∷ ys) z l e = inr e
elsewhere zero (suc k) (y ∷ ys) z l e = inl (k, omega (arith, l), e)
elsewhere (suc j) zero (y ∷ ys) z l e = inl (0, omega arith, e)
elsewhere (suc j) (suc k) (y ∷ ys) z l e = ⊎_elim (λ there. inl (contains-behind y _ z there)) (λ here. inr here) (elsewhere j k ys z (omega (arith, l)) e)

-- a list no longer than distinct types that it has is distinct too
pub distinct-again : (xs ys : List Closed) → AreDistinct xs → IsWithin xs ys → length ys ≤ length xs → AreDistinct ys
distinct-again xs ys d w fits = record {
  apart = λ i j e k l twice.
      let still : (z : Closed) → Contains ys z → Contains (without j ys) z =
      λ z h. ⊎_elim (λ there. there) (λ here. kept-before i j ys z k l (get_or_default ys i z e (omega (arith, k, l)) ∙ twice ∙ get_or_default ys j e z l ∙ here)) (elsewhere j h.0 ys z h.1 h.2)
      in
      let fewer = at-most xs (without j ys) d (record { within = λ z h. still z (w.within z h) }) in
      omega (arith, fewer, fits, length-without j ys l);
}

-- the same types in another order
pub whole-again : (limit : ℕ) (P : Closed → Type 0) (xs ys : List Closed) → IsPermutation xs ys → ListsAllWithin limit P xs → ListsAllWithin limit P ys
whole-again limit P xs ys p w =
    let counted = length_permutation xs ys p in
    record {
      all = record {
        distinct = distinct-again xs ys w.all.distinct (record { within = λ c h. Contains-permutation xs ys c p h }) (omega (arith, counted));
        each = All-permutation P xs ys p w.all.each;
        complete = λ c h. Contains-permutation xs ys c p (w.all.complete c h);
      };
      few = omega (arith, counted, w.few);
    }
