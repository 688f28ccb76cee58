-- Facts of the first items of a list.
use Rattle.std.proofs.Common.{◌≡◌, ℕ, ◌+◌, ◌<◌, ◌≤◌, sym, ◌∙◌, subst, below_more, List, length, Some, slice_get, arith}
use Rattle.std.proofs.lemmas.Option.{same_Some, slice_get_within}
use Rattle.tm_layout.specs.Made.{EachIs}

-- a fact of each item before a place
abbrev pub FirstAre : {X : Type 0} → (X → Type 0) → List X → ℕ → Type 0
FirstAre {X} Fact xs n = (k : ℕ) (x : X) → k < n → slice_get xs k ≡ Some x → Fact x

pub first-more : {X : Type 0} (Fact : X → Type 0) (xs : List X) (i : ℕ) (x : X) → slice_get xs i ≡ Some x → FirstAre Fact xs i → Fact x → FirstAre Fact xs (i + 1)
first-more {X} Fact xs i x at before here k y below e =
    below_more (λ k. (y : X) → slice_get xs k ≡ Some y → Fact y) i (λ k h y e. before k y h e) (λ y e. subst Fact (same_Some x y (sym at ∙ e)) here) k below y e

pub first-all : {X : Type 0} (Fact : X → Type 0) (xs : List X) (i : ℕ) → length xs ≤ i → FirstAre Fact xs i → EachIs Fact xs
first-all Fact xs i past before k x e = let within = slice_get_within xs k x e in before k x (omega arith) e

pub first-kept : {X : Type 0} (Fact Later : X → Type 0) (xs : List X) (i : ℕ) → ((x : X) → Fact x → Later x) → FirstAre Fact xs i → FirstAre Later xs i
first-kept Fact Later xs i kept before k x below e = kept x (before k x below e)
