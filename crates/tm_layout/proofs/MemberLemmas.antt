-- Tests of the members of a tuple, one after another.
use Rattle.std.proofs.Common.{◌≡◌, ℕ, suc, ◌+◌, ◌<◌, ◌≤◌, refl, sym, ◌∙◌, ap, Bool, true, false, ◌||◌, List, [], ◌∷◌, length, get_or, drop, drop-cons, add-one}
use Rattle.std.proofs.lemmas.List.{drop_all}
use Rattle.tm_base.specs.declared.ground.Ground.{Ground}
use Rattle.tm_base.specs.Expanded.{Expanded, elements}
use Rattle.tm_base.specs.Parts.{some_field, some_within, some_part}

regroup : (a b c : Bool) → ((a || b) || c) ≡ (a || (b || c))
regroup true b c = refl
regroup false b c = refl

or-false : (a : Bool) → (a || false) ≡ a
or-false true = refl
or-false false = refl

module _ (test : Expanded → Bool) (part : Ground → Expanded) where
  abbrev pub some_member : List Ground → Bool
  some_member gs = some_field test (elements part gs)

  members-next : (gs : List Ground) (i : ℕ) (g : Ground) → i < length gs → g ≡ get_or gs i g → some_member (drop i gs) ≡ (some_within test (part g) || some_member (drop (i + 1) gs))
  unfolding some_part
  members-next gs i g below e =
      let next : drop i gs ≡ g ∷ drop (i + 1) gs = rw (add-one, drop-cons gs i g) (ap (λ x. x ∷ drop (suc i) gs) (sym e)) in
      ap some_member next

  -- one member more is looked at
  pub members-step : (gs : List Ground) (i : ℕ) (g : Ground) (a b all : Bool) → i < length gs → g ≡ get_or gs i g → b ≡ some_within test (part g)
      → (a || some_member (drop i gs)) ≡ all → ((a || b) || some_member (drop (i + 1) gs)) ≡ all
  members-step gs i g a b all below e same h =
      regroup a b (some_member (drop (i + 1) gs))
      ∙ ap (λ x. a || (x || some_member (drop (i + 1) gs))) same
      ∙ ap (λ x. a || x) (sym (members-next gs i g below e)) ∙ h

  -- all are looked at
  pub members-end : (gs : List Ground) (i : ℕ) (a all : Bool) → length gs ≤ i → (a || some_member (drop i gs)) ≡ all → a ≡ all
  unfolding some_part
  members-end gs i a all past h =
      let none : drop i gs ≡ [] = drop_all i gs past in
      sym (or-false a) ∙ ap (λ rest. a || some_member rest) (sym none) ∙ h
