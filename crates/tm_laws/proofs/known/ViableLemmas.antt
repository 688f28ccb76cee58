-- It is known how far a target goes along with a word, where it is known which references may be taken
-- as which, and the numbers of those that may are bounded.
use Rattle.std.proofs.Common.{ℕ, suc, ◌+◌, ◌-◌, ◌<◌, ◌≤◌, ◌⊎◌, max, inl, inr, refl, Bool, [], ◌∷◌, ◌++◌, length, take, arith, length-append}
use Rattle.std.specs.List.{All}
use Rattle.tm_base.specs.declared.cell.Cell.{Cell}
use Rattle.tm_base.specs.declared.cell.Cell.TheVariants.{Byte, Ptr}
use Rattle.tm_base.specs.Cells.{Word, fit, own, OrOwn}
use Rattle.tm_base.specs.Expanded.{Expanded}
use Rattle.tm_base.specs.Layout.{size_of}
use Rattle.tm_base.specs.Valid.{Valid}
use Rattle.tm_base.specs.Viable.{HasWord, Viable, RefusesAt, StandsOpen}
use Rattle.tm_base.proofs.ValidLemmas.{Valid-length}
use Rattle.tm_laws.proofs.known.DecideLemmas.{Dec-and, Dec-or, Dec-not, Dec-like, Dec-eq}
use Rattle.tm_laws.proofs.known.LeastLemmas.{least_below}
use Rattle.tm_laws.proofs.known.ListedLemmas.{Listed-under, find}
use Rattle.tm_laws.proofs.refusals.Moves.{All-second, All-middle}
use Rattle.tm_laws.proofs.known.ValidLemmas.{Valid-known, Listed-valid}
use Rattle.tm_laws.proofs.known.WithinLemmas.{refs_below, Valid-within}
use Rattle.tm_laws.proofs.known.WordSearchLemmas.{IsWithin, Listed-words, Listed-below}

module _ (A : ℕ → ℕ → Type 0) (known : (x t : ℕ) → Dec (A x t)) (bound : ℕ → ℕ) (bounded : (x t : ℕ) → A x t → x < bound t) (keep : Bool) (t : Expanded) where
  OrOwn-known : (x u : ℕ) → Dec (OrOwn A x u)
  OrOwn-known x u = Dec-or (known x u) (Dec-eq x (own u))

  abbrev own_bound : ℕ → ℕ
  own_bound u = max (bound u) (suc (own u))

  OrOwn-bounded : (x u : ℕ) → OrOwn A x u → x < own_bound u
  OrOwn-bounded x u (inl a) = omega (arith, bounded x u a)
  OrOwn-bounded x u (inr e) = omega arith

  abbrev limit : ℕ
  limit = refs_below own_bound t

  word-within : (w : Word) → Valid (OrOwn A) keep t w → All (IsWithin limit) w
  word-within w valid = Valid-within (OrOwn A) keep own_bound OrOwn-bounded t w valid

  pub HasWord-known : Dec (HasWord A keep t)
  HasWord-known = find (Valid (OrOwn A) keep t) (Listed-valid (OrOwn A) keep own_bound OrOwn-bounded t) (Valid-known (OrOwn A) OrOwn-known keep t)

  pub Viable-known : (prefix : Word) → Dec (Viable A keep t prefix)
  Viable-known prefix =
      find (λ rest. Valid (OrOwn A) keep t (prefix ++ rest))
      (Listed-words limit (size_of t - length prefix) (λ rest. Valid (OrOwn A) keep t (prefix ++ rest)) (λ rest valid. (
        omega (arith, Valid-length (OrOwn A) keep t (prefix ++ rest) valid, length-append prefix rest),
        All-second (IsWithin limit) prefix rest (prefix ++ rest) refl (word-within (prefix ++ rest) valid),
      )))
      (λ rest. Valid-known (OrOwn A) OrOwn-known keep t (prefix ++ rest))

  pub RefusesAt-known : (w : Word) (o : ℕ) → Dec (RefusesAt A keep t w o)
  RefusesAt-known w o =
      Dec-like
      (λ (goes, stops). record { goes_to = goes; stops = stops })
      (λ refuses. (refuses.goes_to, refuses.stops))
      (Dec-and (Viable-known (take o (fit w (size_of t)))) (Dec-not (Viable-known (take (o + 1) (fit w (size_of t))))))

  -- it is known whether some byte goes on behind a front
  pub some_byte-known : (before : Word) → Dec ((b : ℕ) × Viable A keep t (before ++ Byte b ∷ []))
  some_byte-known before =
      find (λ b. Viable A keep t (before ++ Byte b ∷ []))
      (Listed-under (λ b. Viable A keep t (before ++ Byte b ∷ [])) (λ b. b < 256)
      (λ b (rest, valid). All-middle (IsWithin limit) before (Byte b) rest (word-within ((before ++ Byte b ∷ []) ++ rest) valid)) (Listed-below 256))
      (λ b. Viable-known (before ++ Byte b ∷ []))

  -- the least reference that stands open behind a front, or the knowledge that there is none
  pub least_open : (before : Word) → ((u : ℕ) × StandsOpen A keep t before u × ((v : ℕ) → StandsOpen A keep t before v → u ≤ v)) ⊎ ((u : ℕ) → ¬ StandsOpen A keep t before u)
  least_open before = least_below limit (StandsOpen A keep t before) below_limit (λ u. Viable-known (before ++ Ptr (record { 0 = own u }) 0 ∷ [])) where
    below_limit : (u : ℕ) → StandsOpen A keep t before u → u < limit
    below_limit u (rest, valid) =
        let open_cell : Cell = Ptr (record { 0 = own u }) 0 in
        let stands = All-middle (IsWithin limit) before open_cell rest (word-within ((before ++ open_cell ∷ []) ++ rest) valid) in
        omega (arith, stands.0)
