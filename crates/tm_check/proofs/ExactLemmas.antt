-- The test is exact: on whole words it says what is valid, and on any which words of the type go on with.
use Rattle.std.proofs.Common.{◌≡◌, ℕ, ◌+◌, ◌-◌, ◌<◌, ◌≤◌, nat_le, ◌==◌, inl, inr, refl, sym, ◌∙◌, ap, subst, Bool, true, false, ◌&&◌, not, IsTrue, ◌↔◌, [], ◌++◌, length, take, replicate, min, arith, append-nil}
use Rattle.std.proofs.lemmas.Bool.{le-leb, leb-true, eqb-true, eq-eqb}
use Rattle.std.proofs.lemmas.List.{length-append, nil_from_length, take_all, take-take, length-take, length-replicate}
use Rattle.tm_base.specs.declared.cell.Cell.TheVariants.{Uninit}
use Rattle.tm_base.specs.Cells.{Word, OrOwn, fit, or_own}
use Rattle.tm_base.specs.Expanded.{Expanded}
use Rattle.tm_base.specs.Faults.{has_no_layout}
use Rattle.tm_base.specs.Layout.{size_of}
use Rattle.tm_base.specs.Transmutes.{Same, holds}
use Rattle.tm_base.specs.Valid.{Valid}
use Rattle.tm_base.specs.Viable.{RefusesAt, Viable}
use Rattle.tm_base.proofs.CellLemmas.{or_own-exact}
use Rattle.tm_base.proofs.ValidLemmas.{Valid-grows, Valid-length}
use Rattle.tm_check.specs.Begins.{begins}
use Rattle.tm_check.proofs.CutLemmas.{and-true, both}
use Rattle.tm_check.proofs.RunLemmas.{take-told}
use Rattle.tm_check.proofs.SoundLemmas.{Loose, sound}
use Rattle.tm_check.proofs.ToldLemmas.{complete}

module _ (A : ℕ → ℕ → Bool) (keep : Bool) (t : Expanded) (ok : has_no_layout t ≡ false) (w : Word) where
  no-own : (x r : ℕ) → Loose A ⊥ x r → holds A x r
  no-own x r (inl held) = held
  no-own x r (inr (none, same)) = elim none [ ]

  whole-to : ((length w == size_of t) && begins A keep t w) ≡ true → Valid (holds A) keep t w
  whole-to h =
      let (sized, here) = both (length w == size_of t) (begins A keep t w) h in
      let long : length w ≡ size_of t = eqb-true (length w) (size_of t) sized in
      let (rest, valid) = sound A keep ⊥ t ok w here (omega arith) (λ (less : length w < size_of t). absurd (omega (arith, less, long))) in
      let total = length-append w rest in
      let all = Valid-length (Loose A ⊥) keep t (w ++ rest) valid in
      let none : rest ≡ [] = nil_from_length rest (omega arith) in
      let same : w ++ rest ≡ w = ap (λ u. w ++ u) none ∙ append-nil w in
      Valid-grows (Loose A ⊥) (holds A) keep keep no-own (λ k. k) t w (subst (Valid (Loose A ⊥) keep t) same valid)

  to-whole : Valid (holds A) keep t w → ((length w == size_of t) && begins A keep t w) ≡ true
  to-whole valid =
      and-true (length w == size_of t) (begins A keep t w) (eq-eqb (length w) (size_of t) (Valid-length (holds A) keep t w valid))
      (complete A keep t ok w [] (subst (Valid (holds A) keep t) (sym (append-nil w)) valid))

  pub valid-exact : (b : Bool) → b ≡ ((length w == size_of t) && begins A keep t w) → IsTrue b ↔ Valid (holds A) keep t w
  valid-exact b e = (λ h. whole-to (sym e ∙ h), λ v. e ∙ to-whole v)

  own-held : (x r : ℕ) → Loose (or_own A) (Unit {0}) x r → OrOwn (holds A) x r
  own-held x r (inl held) = (or_own-exact A x r).0 held
  own-held x r (inr (some, same)) = inr same

  prefix-to : (nat_le (length w) (size_of t) && begins (or_own A) keep t w) ≡ true → Viable (holds A) keep t w
  prefix-to h =
      let (short, here) = both (nat_le (length w) (size_of t)) (begins (or_own A) keep t w) h in
      let (rest, valid) = sound (or_own A) keep (Unit {0}) t ok w here (leb-true (length w) (size_of t) short) (λ less. tt) in
      (rest, Valid-grows (Loose (or_own A) (Unit {0})) (OrOwn (holds A)) keep keep own-held (λ k. k) t (w ++ rest) valid)

  to-prefix : Viable (holds A) keep t w → (nat_le (length w) (size_of t) && begins (or_own A) keep t w) ≡ true
  to-prefix (rest, valid) =
      let all = Valid-length (OrOwn (holds A)) keep t (w ++ rest) valid in
      let total = length-append w rest in
      and-true (nat_le (length w) (size_of t)) (begins (or_own A) keep t w) (le-leb (length w) (size_of t) (omega arith))
      (complete (or_own A) keep t ok w rest (Valid-grows (OrOwn (holds A)) (holds (or_own A)) keep keep (λ x r o. (or_own-exact A x r).1 o) (λ k. k) t (w ++ rest) valid))

  pub viable-exact : (b : Bool) → b ≡ (nat_le (length w) (size_of t) && begins (or_own A) keep t w) → IsTrue b ↔ Viable (holds A) keep t w
  viable-exact b e = (λ h. prefix-to (sym e ∙ h), λ v. e ∙ to-prefix v)

-- ---- refusals

-- the first cells of a word, fitted
pub fit-front : (w : Word) (o m : ℕ) → o ≤ m → take o (fit w m) ≡ fit w o
fit-front w o m less =
    take-told o (m - length w) (take m w) ∙ ap (λ u. u ++ replicate (min (m - length w) (o - length (take m w))) Uninit) (take-take o m w less)
    ∙ (let taken = length-take m w in let same : min (m - length w) (o - length (take m w)) ≡ o - length w = omega arith in ap (λ (k : ℕ). take o w ++ replicate k Uninit) same)

pub fit-long : (w : Word) (m : ℕ) → length (fit w m) ≡ m
fit-long w m =
    let taken = length-take m w in
    length-append (take m w) (replicate (m - length w) Uninit) ∙ ap (λ (k : ℕ). length (take m w) + k) (length-replicate (m - length w) Uninit) ∙ omega arith

module _ (A : ℕ → ℕ → Bool) (keep : Bool) (t : Expanded) (w : Word) (o : ℕ) where
  abbrev GoesOn : Word → Type 0
  GoesOn = Viable (holds A) keep t

  -- nothing is refused behind the target
  pub refused-inside : RefusesAt (holds A) keep t w o → size_of t ≤ o → ⊥
  refused-inside refused past =
      let long = fit-long w (size_of t) in
      let one : take o (fit w (size_of t)) ≡ fit w (size_of t) = take_all o (fit w (size_of t)) (omega arith) in
      let more : take (o + 1) (fit w (size_of t)) ≡ fit w (size_of t) = take_all (o + 1) (fit w (size_of t)) (omega arith) in
      refused.stops (subst GoesOn (one ∙ sym more) refused.goes_to)

  refused-exact : o < size_of t → (goes further : Bool) → IsTrue goes ↔ GoesOn (fit w o) → IsTrue further ↔ GoesOn (fit w (o + 1))
      → IsTrue (goes && not further) ↔ RefusesAt (holds A) keep t w o
  refused-exact below goes further first second =
      let one : take o (fit w (size_of t)) ≡ fit w o = fit-front w o (size_of t) (omega arith) in
      let more : take (o + 1) (fit w (size_of t)) ≡ fit w (o + 1) = fit-front w (o + 1) (size_of t) (omega arith) in (
        λ h. let (a, b) = both goes (not further) h in record {
          goes_to = subst GoesOn (sym one) (first.0 a);
          stops = λ v. false-not further b (second.1 (subst GoesOn more v));
        },
        λ refused. and-true goes (not further) (first.1 (subst GoesOn one refused.goes_to)) (not-when further (λ h. refused.stops (subst GoesOn (sym more) (second.0 h)))),
      ) where
        false-not : (b : Bool) → not b ≡ true → b ≡ true → ⊥
        false-not true h k = cc
        false-not false h k = cc

        not-when : (b : Bool) → (b ≡ true → ⊥) → not b ≡ true
        not-when true f = absurd (f refl)
        not-when false f = refl

  pub refused-by : o < size_of t → (goes further : Bool) → IsTrue goes ↔ GoesOn (fit w o) → IsTrue further ↔ GoesOn (fit w (o + 1)) → (b : Bool) → b ≡ (goes && not further)
      → IsTrue b ↔ RefusesAt (holds A) keep t w o
  refused-by below goes further first second b e =
      let exact = refused-exact below goes further first second in
      (λ h. exact.0 (sym e ∙ h), λ r. e ∙ exact.1 r)

  pub refused-first : o < size_of t → (goes : Bool) → IsTrue goes ↔ GoesOn (fit w o) → goes ≡ false → IsTrue goes ↔ RefusesAt (holds A) keep t w o
  refused-first below goes first fail = (
    λ h. let none : true ≡ false = sym h ∙ fail in cc,
    λ refused. first.1 (subst GoesOn (fit-front w o (size_of t) (omega arith)) refused.goes_to),
  )

-- ---- source words

-- a word whose references hold themselves alone
pub source-exact : (t : Expanded) (w : Word) → Valid (holds (λ x r. x == r)) true t w ↔ Valid Same true t w
source-exact t w = (
  Valid-grows (holds (λ x r. x == r)) Same true true (λ x r h. eqb-true x r h) (λ k. k) t w,
  Valid-grows Same (holds (λ x r. x == r)) true true (λ x r h. eq-eqb x r h) (λ k. k) t w,
)

-- ---- two tests in turn

module _ (P Q : Type 0) (a b : Bool) (first : IsTrue a ↔ P) (second : IsTrue b ↔ Q) where
  pub then-both : a ≡ true → IsTrue b ↔ (P × Q)
  then-both pass = (λ h. (first.0 pass, second.0 h), λ (p, q). second.1 q)

module _ (P Q : Type 0) (a : Bool) (first : IsTrue a ↔ P) where
  pub else-both : a ≡ false → IsTrue a ↔ (P × Q)
  else-both fail = (λ h. let none : true ≡ false = sym h ∙ fail in cc, λ (p, q). first.1 p)
