-- How lists to which types are added grow.
use Rattle.std.proofs.Common.{◌≡◌, ◌≢◌, ℕ, ◌+◌, ◌<◌, ◌⊎◌, refl, sym, ap, subst, ◌∙◌, List, [], ◌∷◌, ◌++◌, length, append-nil, arith, ⊎_elim, Contains, length-append, Some, slice_get}
use Rattle.std.proofs.lemmas.List.Elements.{Contains-append_left, Contains-append_right, Contains-push_cases}
use Rattle.std.proofs.lemmas.List.{get_or_default}
use Rattle.std.proofs.lemmas.List.Quantifiers.{all_pairs_push}
use Rattle.tm_ground.specs.Closed.{Closed}
use Rattle.tm_ground.proofs.finding.ContainsLemmas.{contains-nothing, get_or-from_get}
use Rattle.tm_ground.specs.Growing.{IsWithin, Grows, Adds, Overflows}

-- the places done so far, and the one that is done now
pub below-or-last : (k done : ℕ) → k < done + 1 → (k < done) ⊎ (k ≡ done)
below-or-last k done l = grind arith

pub within-self : (xs : List Closed) → IsWithin xs xs
within-self xs = record { within = λ c h. h }

pub within-trans : (xs ys zs : List Closed) → IsWithin xs ys → IsWithin ys zs → IsWithin xs zs
within-trans xs ys zs a b = record { within = λ c h. b.within c (a.within c h) }

within-nil : (ys : List Closed) → IsWithin [] ys
within-nil ys = record { within = λ c h. absurd (contains-nothing c h) }

pub within-left : (xs ys : List Closed) → IsWithin xs (xs ++ ys)
within-left xs ys = record { within = λ c h. Contains-append_left xs ys c h }

pub within-right : (xs ys : List Closed) → IsWithin ys (xs ++ ys)
within-right xs ys = record { within = λ c h. Contains-append_right xs ys c h }

-- the old list is within the new one
pub grows-old : (old xs new : List Closed) → Grows old xs new → IsWithin old new
grows-old old xs new g = subst (λ ys. IsWithin old ys) (sym g.grown) (within-left old g.extra)

grows-none : (old xs : List Closed) → Grows old xs old
grows-none old xs = record { extra = []; grown = sym (append-nil old); from = within-nil xs; distinct = λ h. h }

-- a type that is there already
pub adds-present : (limit : ℕ) (old : List Closed) (x : Closed) → Contains old x → Adds limit old (x ∷ []) old
adds-present limit old x h = record {
  grows = grows-none old (x ∷ []);
  has = record { within = λ c i. ⊎_elim (λ j. absurd (contains-nothing c j)) (λ e. subst (λ y. Contains old y) e h) (Contains-push_cases [] x c i) };
  within = λ k. k;
}

grows-new : (old : List Closed) (x : Closed) → (Contains old x → ⊥) → Grows old (x ∷ []) (old ++ x ∷ [])
grows-new old x absent = record {
  extra = x ∷ [];
  grown = refl;
  from = within-self (x ∷ []);
  distinct = λ h. record { apart = all_pairs_push (λ a b. a ≢ b) old x h.apart (λ k d l e. absent (k, l, get_or_default old k x d l ∙ e)) };
}

-- a type that wasn't there
pub adds-new : (limit : ℕ) (old : List Closed) (x : Closed) → (Contains old x → ⊥) → length old ≢ limit → Adds limit old (x ∷ []) (old ++ x ∷ [])
adds-new limit old x absent room = record {
  grows = grows-new old x absent;
  has = within-right old (x ∷ []);
  within = λ h. omega (arith, length-append old (x ∷ []), room);
}

pub overflows-new : (limit : ℕ) (old : List Closed) (x : Closed) → (Contains old x → ⊥) → length old ≡ limit → Overflows limit old (x ∷ [])
overflows-new limit old x absent full = record {
  found = old ++ x ∷ [];
  grows = grows-new old x absent;
  count = length-append old (x ∷ []) ∙ ap (λ n. n + 1) full;
}

pub contains-from_get : (xs : List Closed) (i : ℕ) (x : Closed) → slice_get xs i ≡ Some x → Contains xs x
contains-from_get xs i x h =
    let at = get_or-from_get xs i x h in
    (i, at.0, sym at.1)
