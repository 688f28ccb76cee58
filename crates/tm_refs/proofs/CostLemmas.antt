-- How many pairs are gone, and how many looks that costs.
use Rattle.std.proofs.Common.{◌≡◌, ℕ, ◌+◌, ◌-◌, ◌<◌, ◌≤◌, refl, Bool, true, false, not, List, length, arith}
use Rattle.std.specs.List.{filter, sum_by}
use Rattle.std.proofs.Math.Nat.{mul-le-mul_left, mul-le-mul_right}
use Rattle.std.proofs.lemmas.List.Sums.{count_by-le-length, length-filter}
use Rattle.tm_base.specs.declared.assume.Assume.{Assume}
use Rattle.tm_base.specs.Tables.{Tables}
use Rattle.tm_refs.specs.declared.pair.Pair.{Pair}
use Rattle.tm_refs.specs.declared.standing.Standing.{Standing}
use Rattle.tm_refs.specs.Looks.{IsCompatibility, all_pairs, dependents, depends_on, depends_on_some, most_looks}
use Rattle.tm_refs.specs.Rounds.{AreLost, IsSettled, gone}
use Rattle.tm_refs.specs.Standings.{is_held}
use Rattle.tm_refs.proofs.PairLemmas.{length-pairs_below}
use Rattle.tm_refs.proofs.SumLemmas.{related-le, sum-rises}
use Rattle.tm_refs.proofs.ListLemmas.{ones}

module _ (tables : Tables) (assume : Assume) where
  -- what is gone weighs no more than what isn't compatible
  pub gone-least : (n : ℕ) (rows : List (List Standing)) (compatible : ℕ → ℕ → Bool) → IsSettled tables assume n rows → IsCompatibility tables assume compatible
      → length (all_pairs tables) + gone (dependents tables) (all_pairs tables) rows ≤ most_looks tables compatible
  gone-least n rows compatible settled is =
      omega (arith, sum-rises (dependents tables) (λ pair. not (is_held rows pair)) (λ pair. not (compatible pair.source.0 pair.target.0)) rises (all_pairs tables)) where
        rises : (pair : Pair) → not (is_held rows pair) ≡ true → not (compatible pair.source.0 pair.target.0) ≡ true
        rises pair = go (is_held rows pair) (compatible pair.source.0 pair.target.0) refl refl where
          go : (a b : Bool) → is_held rows pair ≡ a → compatible pair.source.0 pair.target.0 ≡ b → not a ≡ true → not b ≡ true
          go a false e f h = refl
          go false true e f h = absurd (settled.fails pair e ((is.exact pair.source.0 pair.target.0).0 f n))
          go true true e f h = h

  -- no more pairs are gone than there are
  pub gone-most : (rows : List (List Standing)) → gone (λ pair. 1) (all_pairs tables) rows ≤ length (all_pairs tables)
  gone-most rows = omega (
    arith,
    ones (filter (λ pair. not (is_held rows pair)) (all_pairs tables)),
    length-filter (λ pair. not (is_held rows pair)) (all_pairs tables),
    count_by-le-length (λ pair. not (is_held rows pair)) (all_pairs tables),
  )

  pub dependents-few : (lost : List Pair) → length (filter (depends_on_some tables lost) (all_pairs tables)) ≤ sum_by (dependents tables) lost
  dependents-few lost = related-le (depends_on tables) (all_pairs tables) lost

  -- a world has few references, and so few pairs
  pub pairs-few : length tables.refs ≤ 64 → length (all_pairs tables) ≤ 4096
  pairs-few few =
      let n = length tables.refs in
      omega (arith, length-pairs_below n, mul-le-mul_right n few, mul-le-mul_left 64 few)

  -- where some are lost, fewer are held
  pub fewer-held : (before after : List (List Standing)) (lost : List Pair) → AreLost tables assume before after lost → 0 < length lost
      → length (all_pairs tables) - gone (λ pair. 1) (all_pairs tables) after < length (all_pairs tables) - gone (λ pair. 1) (all_pairs tables) before
  fewer-held before after lost losses some = omega (arith, losses.gone_with (λ pair. 1), ones lost, gone-most after)
