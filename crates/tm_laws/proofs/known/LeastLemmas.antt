-- The least of some numbers, words and types: where it is known of each whether a fact holds of it, and
-- it holds of one.
use Rattle.std.proofs.Common.{◌≡◌, ℕ, suc, ◌<◌, ◌≤◌, ◌⊎◌, inl, inr, false, arith, nat_lt}
use Rattle.std.proofs.lemmas.Bool.{cases_lt, ltb-false}
use Rattle.tm_base.specs.Cells.{Word}
use Rattle.tm_base.specs.Orders.{word_less}
use Rattle.tm_base.proofs.OrderLemmas.{word_less-trans, nat_lt-irrefl, nat_lt-trans}
use Rattle.tm_base.proofs.ValidTestLemmas.{word_less-irrefl}
use Rattle.tm_laws.proofs.known.ListedLemmas.{LeastFound, least_in, Listed}
use Rattle.tm_laws.proofs.known.WordSearchLemmas.{below, below-has}

-- the least word with a fact that listed words alone have, or the knowledge that there is none
pub least_word : (P : Word → Type 0) → Listed P → ((w : Word) → Dec (P w)) → ((w : Word) × P w × ((v : Word) → P v → word_less v w ≡ false)) ⊎ ((w : Word) → ¬ P w)
least_word P listed known = go (least_in P known word_less word_less-trans word_less-irrefl listed.items) where
  go : LeastFound P known word_less word_less-trans word_less-irrefl listed.items → ((w : Word) × P w × ((v : Word) → P v → word_less v w ≡ false)) ⊎ ((w : Word) → ¬ P w)
  go (inl (w, at, p, least)) = inl (w, p, λ v q. least v (listed.has v q) q)
  go (inr none) = inr (λ w p. none w (listed.has w p) p)

-- the least number with a fact that numbers below a bound alone have, or the knowledge that there is none
pub least_below : (bound : ℕ) (P : ℕ → Type 0) → ((n : ℕ) → P n → n < bound) → ((n : ℕ) → Dec (P n)) → ((n : ℕ) × P n × ((m : ℕ) → P m → n ≤ m)) ⊎ ((n : ℕ) → ¬ P n)
least_below bound P under known = go (least_in P known nat_lt nat_lt-trans nat_lt-irrefl (below bound)) where
  go : LeastFound P known nat_lt nat_lt-trans nat_lt-irrefl (below bound) → ((n : ℕ) × P n × ((m : ℕ) → P m → n ≤ m)) ⊎ ((n : ℕ) → ¬ P n)
  go (inl (n, at, p, least)) = inl (n, p, λ m q. ltb-false m n (least m (below-has bound m (under m q)) q))
  go (inr none) = inr (λ n p. none n (below-has bound n (under n p)) p)

-- the least number with a fact that one has
pub least_number : (P : ℕ → Type 0) → ((n : ℕ) → Dec (P n)) → (m : ℕ) → P m → (n : ℕ) × P n × ((k : ℕ) → P k → n ≤ k)
least_number P known m p = go (least_in P known nat_lt nat_lt-trans nat_lt-irrefl (below (suc m))) where
  go : LeastFound P known nat_lt nat_lt-trans nat_lt-irrefl (below (suc m)) → (n : ℕ) × P n × ((k : ℕ) → P k → n ≤ k)
  go (inr none) = absurd (none m (below-has (suc m) m (omega arith)) p)
  go (inl (n, at, q, least)) = (n, q, least_of) where
    up_to_m : n ≤ m
    up_to_m = ltb-false m n (least m (below-has (suc m) m (omega arith)) p)

    by_side : (k : ℕ) → P k → (k < suc m) ⊎ (suc m ≤ k) → n ≤ k
    by_side k r (inl h) = ltb-false k n (least k (below-has (suc m) k h) r)
    by_side k r (inr h) = omega (arith, up_to_m)

    least_of : (k : ℕ) → P k → n ≤ k
    least_of k r = by_side k r (cases_lt k (suc m))
