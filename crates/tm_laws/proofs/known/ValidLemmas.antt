-- It is known of each word whether it is one of a type, and of each type whether it has a value, where
-- it is known which values references may hold.
use Rattle.std.proofs.Common.{ℕ, suc, ◌<◌, inl, inr, Bool, true, arith}
use Rattle.tm_base.specs.Cells.{Word}
use Rattle.tm_base.specs.Expanded.{Expanded}
use Rattle.tm_base.specs.Layout.{size_of}
use Rattle.tm_base.specs.Transmutes.{Same, IsSourceWord, holds}
use Rattle.tm_base.specs.Valid.{Valid}
use Rattle.tm_base.specs.ValidTest.{valid_test}
use Rattle.tm_base.proofs.AssumeLemmas.{IsValueKnown}
use Rattle.tm_base.proofs.ValidLemmas.{Valid-length, Valid-grows}
use Rattle.tm_base.proofs.ValidTestLemmas.{valid_test-exact}
use Rattle.tm_laws.proofs.known.DecideLemmas.{Dec-like, Dec-by_test, Dec-eq, test_of, test_of-to, test_of-from}
use Rattle.tm_laws.proofs.known.ListedLemmas.{Listed, find}
use Rattle.tm_laws.proofs.known.WordSearchLemmas.{Listed-words}
use Rattle.tm_laws.proofs.known.WithinLemmas.{refs_below, Valid-within}

module _ (A : ℕ → ℕ → Type 0) (known : (x t : ℕ) → Dec (A x t)) where
  -- the relation as a test
  abbrev pub relation_test : ℕ → ℕ → Bool
  relation_test x t = test_of (known x t)

  -- it is known whether a word is valid
  pub Valid-known : (keep : Bool) (t : Expanded) (w : Word) → Dec (Valid A keep t w)
  Valid-known keep t w =
      Dec-like
      (λ h. Valid-grows (holds relation_test) A keep keep (λ x u. test_of-to (known x u)) (λ k. k) t w h)
      (λ h. Valid-grows A (holds relation_test) keep keep (λ x u. test_of-from (known x u)) (λ k. k) t w h)
      (Dec-by_test (valid_test relation_test keep t w) (valid_test-exact relation_test keep t w))

-- the words of a type are listed, where references hold values with numbers below a bound
pub Listed-valid : (A : ℕ → ℕ → Type 0) (keep : Bool) (bound : ℕ → ℕ) → ((x t : ℕ) → A x t → x < bound t) → (t : Expanded) → Listed (Valid A keep t)
Listed-valid A keep bound bounded t =
    Listed-words (refs_below bound t) (size_of t) (Valid A keep t)
    (λ w h. (Valid-length A keep t w h, Valid-within A keep bound bounded t w h))

pub Same-known : (x t : ℕ) → Dec (Same x t)
Same-known x t = Dec-eq x t

pub IsSourceWord-known : (s : Expanded) (w : Word) → Dec (IsSourceWord s w)
IsSourceWord-known s w = Valid-known Same Same-known true s w

pub Listed-source : (s : Expanded) → Listed (IsSourceWord s)
Listed-source s = Listed-valid Same true suc (λ x t e. omega arith) s

-- it is known of each type whether it has a value
pub settled : (s : Expanded) → IsValueKnown s
settled s = go (find (IsSourceWord s) (Listed-source s) (IsSourceWord-known s)) where
  go : Dec ((w : Word) × IsSourceWord s w) → IsValueKnown s
  go (yes h) = inr h
  go (no f) = inl (λ w value. f (w, value))
