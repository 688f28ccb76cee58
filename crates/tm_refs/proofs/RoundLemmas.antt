-- What a round makes of the table, and when the table is solved.
use Rattle.std.proofs.Common.{◌≡◌, ℕ, zero, suc, ◌+◌, ◌-◌, ◌<◌, ◌≤◌, ◌⊎◌, ◌↔◌, inl, inr, refl, sym, subst, true, IsTrue, List, Option, None, Some, slice_get, arith}
use Rattle.std.specs.Prelude.{is_none, MatchOption, nat_lt}
use Rattle.std.proofs.lemmas.Bool.{cases_lt}
use Rattle.std.proofs.lemmas.Bool.Decides.{nat_tests}
use Rattle.tm_base.specs.declared.assume.Assume.{Assume}
use Rattle.tm_base.specs.Compatible.{Compatible, CompatibleTo, MeetsOver}
use Rattle.tm_base.specs.Tables.{Tables}
use Rattle.tm_base.proofs.CompatibleLemmas.{CompatibleTo-falls, MeetsOver-grows, OnRows-grows}
use Rattle.tm_refs.specs.declared.compat.Compat.{Compat}
use Rattle.tm_refs.specs.declared.pair.Pair.{Pair}
use Rattle.tm_refs.specs.declared.standing.Standing.{Standing}
use Rattle.tm_refs.specs.Rounds.{AgreesTo, IsSolvedTable, IsTable}
use Rattle.tm_refs.specs.Solved.{FailsFirstAt, IsDepthAnswer, IsSolvedFor, depth_in}
use Rattle.tm_refs.specs.Standings.{depth_of, is_deeper, is_held, standing_in, standing_of, stands_to}

module _ (tables : Tables) (assume : Assume) where
  abbrev To : ℕ → ℕ → ℕ → Type 0
  To n r t = CompatibleTo tables assume n r t

  -- compatible to a depth is compatible to each lesser one
  pub To-falls : (k n r t : ℕ) → To (k + n) r t → To n r t
  To-falls zero n r t h = let e : 0 + n ≡ n = omega arith in subst (λ (m : ℕ). To m r t) e h
  To-falls (suc k) n r t h =
      let e : suc k + n ≡ suc (k + n) = omega arith in
      To-falls k n r t (CompatibleTo-falls tables assume (k + n) r t (subst (λ (m : ℕ). To m r t) e h))

  pub To-lesser : (m n r t : ℕ) → m ≤ n → To n r t → To m r t
  To-lesser m n r t below h = let e : n ≡ (n - m) + m = omega arith in To-falls (n - m) m r t (subst (λ (k : ℕ). To k r t) e h)

  -- where a level changes nothing, the next changes nothing
  deeper : (n m : ℕ) → ((r t : ℕ) → To n r t → To m r t) → (r t : ℕ) → To (suc n) r t → To (suc m) r t
  unfolding CompatibleTo
  deeper n m over r t h =
      OnRows-grows (slice_get tables.refs r) (slice_get tables.refs t) (MeetsOver tables assume (CompatibleTo tables assume n)) (MeetsOver tables assume (CompatibleTo tables assume m))
      (MeetsOver-grows tables assume (CompatibleTo tables assume n) (CompatibleTo tables assume m) over) h

  still-next : (n k : ℕ) → ((r t : ℕ) → To n r t → To (suc n) r t) → (r t : ℕ) → To (k + n) r t → To (suc (k + n)) r t
  still-next n zero still r t h =
      let e : 0 + n ≡ n = omega arith in
      subst (λ (m : ℕ). To (suc m) r t) (sym e) (still r t (subst (λ (m : ℕ). To m r t) e h))
  still-next n (suc k) still r t h =
      let e : suc k + n ≡ suc (k + n) = omega arith in
      subst (λ (m : ℕ). To (suc m) r t) (sym e)
      (deeper (k + n) (suc (k + n)) (still-next n k still) r t (subst (λ (m : ℕ). To m r t) e h))

  still-all : (n k : ℕ) → ((r t : ℕ) → To n r t → To (suc n) r t) → (r t : ℕ) → To n r t → To (k + n) r t
  still-all n zero still r t h = let e : 0 + n ≡ n = omega arith in subst (λ (m : ℕ). To m r t) (sym e) h
  still-all n (suc k) still r t h =
      let e : suc k + n ≡ suc (k + n) = omega arith in
      subst (λ (m : ℕ). To m r t) (sym e) (still-next n k still r t (still-all n k still r t h))

  -- compatible to a level after which nothing changes is compatible
  pub still-Compatible : (n : ℕ) → ((r t : ℕ) → To n r t → To (suc n) r t) → (r t : ℕ) → To n r t → Compatible tables assume r t
  still-Compatible n still r t h depth = To-lesser depth (depth + n) r t (omega arith) (still-all n depth still r t h)

  -- what is known answers whether two references are compatible to so many levels
  standing-exact : (n r t : ℕ) (depth : Option ℕ) → MatchOption depth (To n r t) (λ m. FailsFirstAt tables assume r t m) → IsTrue (is_deeper n depth) ↔ To n r t
  standing-exact n r t None h = (λ _. h, λ _. refl)
  standing-exact n r t (Some m) first = (λ h. first.first n (lt n m h), λ h. go (cases_lt n m) h) where
    lt : (a b : ℕ) → nat_lt a b ≡ true → a < b
    lt a b h = grind (arith, nat_tests)

    le : (a b : ℕ) → a < b → nat_lt a b ≡ true
    le a b h = grind (arith, nat_tests)

    go : (n < m) ⊎ (m ≤ n) → To n r t → nat_lt n m ≡ true
    go (inl below) h = le n m below
    go (inr past) h = absurd (first.fails (To-lesser m n r t past h))

  module _ (n : ℕ) (rows : List (List Standing)) (table : IsTable tables assume n rows) where
    -- the table as a test of two references
    pub table-exact : (r t : ℕ) → IsTrue (stands_to n (standing_in rows r t)) ↔ To n r t
    table-exact r t = standing-exact n r t (depth_of (standing_in rows r t)) (table.right r t).depth

    -- what is held is compatible to the level
    pub held-agrees : (pair : Pair) → is_held rows pair ≡ true → AgreesTo tables assume n pair
    held-agrees pair held = by (depth_of (standing_of rows pair)) held (table.right pair.source.0 pair.target.0).depth where
      by : (depth : Option ℕ) → is_none depth ≡ true → MatchOption depth (To n pair.source.0 pair.target.0) (λ m. FailsFirstAt tables assume pair.source.0 pair.target.0 m) → To n pair.source.0 pair.target.0
      by None h k = k
      by (Some m) h k = cc

    -- a table in which what is held is so at every depth is solved
    pub solved-depth : ((pair : Pair) → is_held rows pair ≡ true → Compatible tables assume pair.source.0 pair.target.0)
        → (r t : ℕ) → IsDepthAnswer tables assume r t (depth_of (standing_in rows r t))
    solved-depth all r t = by (depth_of (standing_in rows r t)) (all (record { source = record { 0 = r }; target = record { 0 = t } })) (table.right r t).depth where
      by : (depth : Option ℕ) → (is_none depth ≡ true → Compatible tables assume r t) → MatchOption depth (To n r t) (λ m. FailsFirstAt tables assume r t m) → IsDepthAnswer tables assume r t depth
      by None h k = h refl
      by (Some m) h k = k

  -- a table that answers each depth is exact
  pub solved-exact : (r t : ℕ) (depth : Option ℕ) → IsDepthAnswer tables assume r t depth → IsTrue (is_none depth) ↔ Compatible tables assume r t
  solved-exact r t None answer = (λ _. answer, λ _. refl)
  solved-exact r t (Some n) answer = (λ h. cc, λ compatible. absurd (answer.fails (compatible n)))

  pub solved-for : (compat : Compat) → compat.assume ≡ assume → IsSolvedTable tables assume compat.table.rows.items → IsSolvedFor tables assume compat
  solved-for compat same solved = record {
    assumed = same;
    exact = λ r t. solved-exact r t (depth_in compat r t) (solved.depth r t);
    depth = solved.depth;
    why = solved.why;
  }
