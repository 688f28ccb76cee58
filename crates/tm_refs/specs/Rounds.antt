-- The table while it is solved, round by round.
use Rattle.std.specs.Prelude.{◌≡◌, ℕ, suc, ◌+◌, ◌≤◌, ◌⊎◌, true, false, not, is_none, MatchOption, List, filter, sum_by, Contains}
use Rattle.tm_base.specs.declared.assume.Assume.{Assume}
use Rattle.tm_base.specs.Compatible.{CompatibleTo}
use Rattle.tm_base.specs.Tables.{Tables}
use Rattle.tm_refs.specs.declared.pair.Pair.{Pair}
use Rattle.tm_refs.specs.declared.standing.Standing.{Standing}
use Rattle.tm_refs.specs.Looks.{all_pairs}
use Rattle.tm_refs.specs.Solved.{FailsFirstAt, IsDepthAnswer, IsWhyAnswer}
use Rattle.tm_refs.specs.Standings.{depth_of, is_held, rule_of, standing_in}

-- so much for each of some pairs that no longer hold
abbrev pub gone : (Pair → ℕ) → List Pair → List (List Standing) → ℕ
gone weight pairs rows = sum_by weight (filter (λ pair. not (is_held rows pair)) pairs)

module _ (tables : Tables) (assume : Assume) where
  -- a pair is compatible as far as so many levels show
  abbrev pub AgreesTo : ℕ → Pair → Type 0
  AgreesTo n pair = CompatibleTo tables assume n pair.source.0 pair.target.0

  -- what is known of two references is right, and what holds does to so many levels
  pub record IsStanding (n r t : ℕ) (standing : Standing) : Type 0 where
    pub depth : MatchOption (depth_of standing) (CompatibleTo tables assume n r t) (λ m. FailsFirstAt tables assume r t m)
    pub why : IsWhyAnswer tables assume r t (rule_of standing)

  -- what two references come to by themselves
  pub record IsFirst (r t : ℕ) (standing : Standing) : Type 0 where
    pub right : IsStanding 0 r t standing
    pub settled : is_none (depth_of standing) ≡ false → ¬ CompatibleTo tables assume 0 r t

  -- what is known of each two references is
  pub record IsTable (n : ℕ) (rows : List (List Standing)) : Type 0 where
    pub right : (r t : ℕ) → IsStanding n r t (standing_in rows r t)

  -- what doesn't hold fails within so many levels
  pub record IsSettled (n : ℕ) (rows : List (List Standing)) : Type 0 where
    pub fails : (pair : Pair) → is_held rows pair ≡ false → ¬ AgreesTo n pair

  -- of the pairs that hold, all but some are known to hold one level deeper
  pub record IsEnough (n : ℕ) (rows : List (List Standing)) (asked : List Pair) : Type 0 where
    pub others : (pair : Pair) → is_held rows pair ≡ true → Contains asked pair ⊎ AgreesTo (suc n) pair

  -- these pairs, and no others, held before and no longer do
  pub record AreLost (before after : List (List Standing)) (lost : List Pair) : Type 0 where
    pub held : (pair : Pair) → is_held after pair ≡ true → is_held before pair ≡ true
    pub listed : (pair : Pair) → is_held before pair ≡ true → (is_held after pair ≡ true) ⊎ Contains lost pair
    pub gone_with : (weight : Pair → ℕ) → gone weight (all_pairs tables) before + sum_by weight lost ≤ gone weight (all_pairs tables) after

  -- The table after a look at a pair, and what is lost so far. A pair that is held then is compatible one level
  -- deeper.
  pub record IsLook (n : ℕ) (before after : List (List Standing)) (pair : Pair) (lost more : List Pair) : Type 0 where
    pub table : IsTable n after
    pub settled : IsSettled (suc n) after
    pub held : (other : Pair) → is_held after other ≡ true → is_held before other ≡ true
    pub passed : is_held after pair ≡ true → AgreesTo (suc n) pair
    pub losses : (start : List (List Standing)) → AreLost start before lost → AreLost start after more

  -- the table after a round to the next level, in which some pairs were lost
  pub record IsRound (n : ℕ) (before after : List (List Standing)) (lost : List Pair) : Type 0 where
    pub table : IsTable (suc n) after
    pub settled : IsSettled (suc n) after
    pub losses : AreLost before after lost

  -- what is known of each two references holds at every depth
  pub record IsSolvedTable (rows : List (List Standing)) : Type 0 where
    pub depth : (r t : ℕ) → IsDepthAnswer tables assume r t (depth_of (standing_in rows r t))
    pub why : (r t : ℕ) → IsWhyAnswer tables assume r t (rule_of (standing_in rows r t))
