-- What walks find, in the words of casts.
use Rattle.std.proofs.Common.{◌≡◌, ℕ, ◌↔◌, inl, inr, refl, sym, ◌∙◌, ap, length, Bool, true, false, IsTrue, List, [], ◌∷◌, Option, None, Some}
use Rattle.std.specs.Prelude.{◌==◌, is_some, IfNone, IfSome}
use Rattle.std.proofs.lemmas.Bool.{eqb-true}
use Rattle.tm_base.specs.Cells.{Word}
use Rattle.tm_base.specs.Transmutes.{is_itself}
use Rattle.tm_auto.specs.Automata.{Automaton, ReadsWords, reached}
use Rattle.tm_walk.specs.declared.walking.Found.{Found}
use Rattle.tm_walk.specs.Meanings.{EachWordFits, IsLeastExample, NoWordFits, exists_skips, exists_stops}
use Rattle.tm_walk.specs.Sought.{IsFound, NoneIsSought}
use Rattle.tm_refs.proofs.ListLemmas.{empty}
use Rattle.tm_refs.specs.Pointees.{AutoCasts, HasNoWord, SomeWordFits}

module _ (A : ℕ → ℕ → Bool) (source target : Automaton) where
  -- some word fits where one is found
  pub some-fits : (answer : Option Found) → (NoneIsSought A source target exists_stops exists_skips ↔ NoWordFits A source target)
      → ((w : Word) (offset : ℕ) → IsFound A source target exists_stops exists_skips w offset → IsLeastExample A source target w offset)
      → IfNone answer (NoneIsSought A source target exists_stops exists_skips)
      → IfSome answer (λ found. IsFound A source target exists_stops exists_skips found.word found.offset)
      → IsTrue (is_some answer) ↔ SomeWordFits A source target
  some-fits None none least unsought found = (λ h. cc, λ (w, word, fits). absurd (none.0 unsought w word fits))
  some-fits (Some it) none least unsought found = (λ _. let example = least it.word it.offset found in (it.word, example.word, example.fits), λ _. refl)

  -- without validity each word has to fit
  pub casts-each : (b : Bool) → IsTrue b ↔ EachWordFits A source target → IsTrue b ↔ AutoCasts A false source target
  casts-each b each = (λ h. inr (inl (refl, each.0 h)), back) where
    back : AutoCasts A false source target → IsTrue b
    back (inl none) = each.1 (λ w word. absurd (none w word))
    back (inr (inl (e, every))) = each.1 every
    back (inr (inr (e, some))) = cc

  -- with it a source without words is enough, or some word that fits
  pub casts-none : HasNoWord source → IsTrue true ↔ AutoCasts A true source target
  casts-none none = (λ _. inl none, λ _. refl)

  pub casts-some : ¬ HasNoWord source → (b : Bool) → IsTrue b ↔ SomeWordFits A source target → IsTrue b ↔ AutoCasts A true source target
  casts-some has b some = (λ h. inr (inr (refl, some.0 h)), back) where
    back : AutoCasts A true source target → IsTrue b
    back (inl none) = absurd (has none)
    back (inr (inl (e, every))) = cc
    back (inr (inr (e, fits))) = some.1 fits

cons-differs : (s : ℕ) (ss : List ℕ) → s ∷ ss ≡ [] → ⊥
cons-differs s ss h = cc

-- an automaton has no word where it has no start
module _ (source : Automaton) (reads : ReadsWords source) where
  startless-none : source.starts ≡ [] → HasNoWord source
  startless-none none w word = (reads.source []).1 (w, word) (reads.begins is_itself ∙ none)

  none-startless : (ss : List ℕ) → ss ≡ reached is_itself source [] → HasNoWord source → ss ≡ []
  none-startless [] e none = refl
  none-startless (s ∷ ss) e none = let (v, word) = (reads.source []).0 (λ h. cons-differs s ss (e ∙ h)) in absurd (none v word)

  pub startless : (b : Bool) → (IsTrue b ↔ (source.starts ≡ [])) → IsTrue b ↔ HasNoWord source
  startless b empty = (λ h. startless-none (empty.0 h), λ none. empty.1 (none-startless source.starts (sym (reads.begins is_itself)) none))

-- a list is empty where its length is 0
pub empty-list : (b : Bool) (xs ys : List ℕ) → xs ≡ ys → b ≡ (length xs == 0) → IsTrue b ↔ (ys ≡ [])
empty-list b xs ys same e =
    (λ h. sym same ∙ empty xs (eqb-true (length xs) 0 (sym e ∙ h)), λ none. e ∙ ap (λ (zs : List ℕ). length zs == 0) (same ∙ none))
