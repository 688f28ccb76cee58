-- What the automaton of a type reads: the type's words, and what begins them, for every relation of references
-- that a test tells of the type's leaves.
use Rattle.std.proofs.Common.{◌≡◌, ℕ, inl, inr, ◌↔◌, Bool, true, ◌++◌}
use Rattle.tm_base.specs.declared.ground.Ground.{Ground}
use Rattle.tm_base.specs.Cells.{Word, OrOwn, or_own}
use Rattle.tm_base.specs.Expanded.{Expanded}
use Rattle.tm_base.specs.Tables.{Tables, expanded_in}
use Rattle.tm_base.specs.Transmutes.{holds}
use Rattle.tm_base.specs.Valid.{Valid}
use Rattle.tm_base.specs.Viable.{Viable}
use Rattle.tm_base.proofs.CellLemmas.{or_own-exact}
use Rattle.tm_auto.specs.Automata.{Automaton, AutoWord, IsViable}
use Rattle.tm_auto.proofs.AutomatonLemmas.{leads_wider}
use Rattle.tm_refs.specs.Looks.{has_leaf}
use Rattle.tm_refs.specs.Pointees.{IsAutomatonOf}
use Rattle.tm_refs.proofs.MoveLemmas.{Valid-leaves}

-- more lists are words where references may hold more
pub AutoWord-grows : (A B : ℕ → ℕ → Type 0) → ((x t : ℕ) → A x t → B x t) → (auto : Automaton) (w : Word) → AutoWord A auto w → AutoWord B auto w
AutoWord-grows A B grows auto w h = record {
  joined = h.joined;
  reaches = record { state = h.reaches.state; among = h.reaches.among; spells = leads_wider A B grows auto.edges w h.reaches.state 0 h.reaches.spells };
}

-- the test says of what may be taken as a leaf of the type the same as the relation
abbrev pub Agree : Expanded → (ℕ → ℕ → Bool) → (ℕ → ℕ → Type 0) → Type 0
Agree t test A = (x u : ℕ) → has_leaf t u ≡ true → holds test x u ↔ A x u

module _ (tables : Tables) (keep : Bool) (g : Ground) (auto : Automaton) (is : IsAutomatonOf tables keep g auto) where
  abbrev t : Expanded
  t = expanded_in tables g

  -- its words are the type's
  pub word-valid : (test : ℕ → ℕ → Bool) (A : ℕ → ℕ → Type 0) → Agree t test A → (w : Word) → AutoWord (holds test) auto w ↔ Valid A keep t w
  word-valid test A same w = (
    λ h. Valid-leaves (holds test) A keep t (λ x u leaf a. (same x u leaf).0 a) w ((is.words test w).0 h),
    λ h. (is.words test w).1 (Valid-leaves A (holds test) keep t (λ x u leaf a. (same x u leaf).1 a) w h),
  )

  module _ (test : ℕ → ℕ → Bool) (A : ℕ → ℕ → Type 0) (same : Agree t test A) where
    own-same : Agree t (or_own test) (OrOwn A)
    own-same x u leaf = (λ h. to ((or_own-exact test x u).0 h), λ h. (or_own-exact test x u).1 (from h)) where
      to : OrOwn (holds test) x u → OrOwn A x u
      to (inl a) = inl ((same x u leaf).0 a)
      to (inr e) = inr e

      from : OrOwn A x u → OrOwn (holds test) x u
      from (inl a) = inl ((same x u leaf).1 a)
      from (inr e) = inr e

    -- where references may hold themselves
    pub own_word-valid : (w : Word) → AutoWord (OrOwn (holds test)) auto w ↔ Valid (OrOwn A) keep t w
    own_word-valid w =
        let both = word-valid (or_own test) (OrOwn A) own-same w in (
          λ h. both.0 (AutoWord-grows (OrOwn (holds test)) (holds (or_own test)) (λ x u a. (or_own-exact test x u).1 a) auto w h),
          λ h. AutoWord-grows (holds (or_own test)) (OrOwn (holds test)) (λ x u a. (or_own-exact test x u).0 a) auto w (both.1 h),
        )

    -- and what begins its words begins the type's
    pub viable-same : (p : Word) → IsViable (holds test) auto p ↔ Viable A keep t p
    viable-same p = (λ (v, h). (v, (own_word-valid (p ++ v)).0 h), λ (v, h). (v, (own_word-valid (p ++ v)).1 h))
