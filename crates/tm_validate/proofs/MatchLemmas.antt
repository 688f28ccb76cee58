-- Where cells are refused, and that it is said of every test of references where no cell is of one.
use Rattle.std.proofs.Common.{◌≡◌, ◌∙◌, ℕ, ◌+◌, ◌<◌, ◌≤◌, ◌==◌, nat_le, Bool, false, List, [], ◌∷◌, ◌++◌, length, take, drop, inl, refl, sym, subst, arith}
use Rattle.std.proofs.lemmas.Bool.{eq-eqb}
use Rattle.std.proofs.lemmas.List.{take_all, take-append-drop}
use Rattle.tm_base.specs.Cells.{Word, OrOwn, fit, or_own}
use Rattle.tm_base.specs.Expanded.{Expanded}
use Rattle.tm_base.specs.Faults.{has_no_layout}
use Rattle.tm_base.specs.Layout.{size_of}
use Rattle.tm_base.specs.Transmutes.{holds, is_itself}
use Rattle.tm_base.specs.Valid.{Valid}
use Rattle.tm_base.specs.Viable.{Viable}
use Rattle.tm_base.proofs.ValidLemmas.{Valid-grows}
use Rattle.tm_check.specs.Begins.{begins}
use Rattle.tm_check.proofs.CutLemmas.{and-true, both}
use Rattle.tm_check.proofs.ExactLemmas.{valid-exact, viable-exact}
use Rattle.tm_validate.specs.declared.matching.Fits.{Fits}
use Rattle.tm_validate.specs.declared.matching.Fits.TheVariants as fits
use Rattle.tm_validate.specs.Against.{AreRefusedAt, AreTo, bytes_of}
use Rattle.tm_validate.specs.Matched.{GoesOn, IsLast, IsMatch}
use Rattle.tm_validate.proofs.AlikeLemmas.{Free, begins-alike, free-front}

module _ (keep : Bool) (t : Expanded) (cells : Word) where
  -- so many of the cells begin a value, and so many, which are more, don't
  pub record IsBetween (goes stops : ℕ) : Type 0 where
    pub begins : GoesOn keep t (take goes cells)
    pub refused : ¬ GoesOn keep t (take stops cells)
    pub less : goes < stops
    pub within : stops ≤ length cells

  pub between-all : GoesOn keep t [] → ¬ GoesOn keep t cells → IsBetween 0 (length cells)
  between-all none all = record {
    begins = none;
    refused = λ goes. all (subst (GoesOn keep t) (take_all (length cells) cells (omega arith)) goes);
    less = some cells none all;
    within = omega arith;
  } where
    some : (cs : Word) → GoesOn keep t [] → ¬ GoesOn keep t cs → 0 < length cs
    some [] here not = absurd (not here)
    some (c ∷ cs) here not = omega arith

  pub between-last : (goes stops : ℕ) → IsBetween goes stops → stops ≤ goes + 1 → IsLast keep t cells goes
  between-last goes stops between near = record {
    goes = between.begins;
    stops = let same : goes + 1 ≡ stops = omega (arith, near, between.less) in λ h. between.refused (subst (λ (n : ℕ). GoesOn keep t (take n cells)) same h);
  }

-- a list of cells as long as the type is, in which none is of a reference
module _ (A : ℕ → ℕ → Bool) (keep : Bool) (t : Expanded) (ok : has_no_layout t ≡ false) (cells : Word) (free : Free cells) where
  valid-alike : (B : ℕ → ℕ → Bool) → Valid (holds A) keep t cells → Valid (holds B) keep t cells
  valid-alike B valid =
      let (sized, here) = both (length cells == size_of t) (begins A keep t cells) ((valid-exact A keep t ok cells _ refl).1 valid) in
      (valid-exact B keep t ok cells _ refl).0 (and-true (length cells == size_of t) (begins B keep t cells) sized (sym (begins-alike A B keep t cells free) ∙ here))

  viable-alike : (B : ℕ → ℕ → Bool) → Viable (holds A) keep t cells → Viable (holds B) keep t cells
  viable-alike B viable =
      let (short, here) = both (nat_le (length cells) (size_of t)) (begins (or_own A) keep t cells) ((viable-exact A keep t ok cells _ refl).1 viable) in
      (viable-exact B keep t ok cells _ refl).0
      (and-true (nat_le (length cells) (size_of t)) (begins (or_own B) keep t cells) short (sym (begins-alike (or_own A) (or_own B) keep t cells free) ∙ here))

  -- where they begin a value they are one
  pub whole : length cells ≡ size_of t → Viable (holds A) keep t cells → Valid (holds A) keep t cells
  whole long viable =
      let (short, here) = both (nat_le (length cells) (size_of t)) (begins (or_own A) keep t cells) ((viable-exact A keep t ok cells _ refl).1 viable) in
      (valid-exact A keep t ok cells _ refl).0
      (and-true (length cells == size_of t) (begins A keep t cells) (eq-eqb (length cells) (size_of t) long) (sym (begins-alike (or_own A) A keep t cells free) ∙ here))

-- what is matched under one test of references is so under every other
module _ (test : ℕ → ℕ → Bool) (keep : Bool) (t : Expanded) (ok : has_no_layout t ≡ false) (bytes : List ℕ) (free : Free (fit (bytes_of bytes) (size_of t))) where
  abbrev Cells : Word
  Cells = fit (bytes_of bytes) (size_of t)

  refused : (n : ℕ) → IsLast keep t Cells n → AreRefusedAt (holds test) keep t bytes n
  refused n last =
      let goes = viable-alike is_itself keep t ok (take n Cells) (free-front n Cells free) test last.goes in
      let stops : ¬ Viable (holds test) keep t (take (n + 1) Cells) = λ viable. last.stops (viable-alike test keep t ok (take (n + 1) Cells) (free-front (n + 1) Cells free) is_itself viable) in record {
        has = (take n Cells ++ goes.0, goes.1);
        unfit = λ valid. stops (
          drop (n + 1) Cells,
          subst (Valid (OrOwn (holds test)) keep t) (sym (take-append-drop (n + 1) Cells))
              (Valid-grows (holds test) (OrOwn (holds test)) keep keep (λ x r h. inl h) (λ k. k) t Cells valid),
        );
        at = record { goes_to = goes; stops = stops };
      }

  pub match-all : (answer : Fits) → IsMatch keep t Cells answer → AreTo (holds test) keep t bytes answer
  match-all fits.Valid valid = valid-alike is_itself keep t ok Cells free test valid
  match-all fits.NoWord none = λ has. none (viable-alike test keep t ok [] refl is_itself has)
  match-all (fits.RefusedAt n) last = refused n last
