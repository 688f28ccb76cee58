-- The pairs of references that fail: the loop that lists them, and the sort that puts them in order.
use Rattle.std.proofs.Common.{◌≡◌, ℕ, suc, ◌+◌, ◌<◌, ◌≤◌, ◌⊎◌, inl, inr, refl, sym, ap, subst, Bool, true, false, not, cond, IsTrue, List, [], ◌∷◌, ◌++◌, All, AllPairs, Contains, IsPermutation, IsSortedBy, filter, length, get_or, Some, None, Equal, is_lt, nat_cmp, suc-add, arith}
use Rattle.std.specs.Cmp.{nat_cmp_is}
use Rattle.std.specs.List.Sorted.{IsStableBy, ties}
use Rattle.std.proofs.lemmas.Bool.{and_from, cases_lt, eq-eqb, lt-ltb, or_left, or_right}
use Rattle.std.proofs.lemmas.List.Elements.{All-cons, All-contains, All-contains_itself, All-nil, All-push, All-weaker, Contains-append_left, Contains-push}
use Rattle.std.proofs.lemmas.List.Kept.{AllPairs-filter}
use Rattle.std.proofs.lemmas.List.Quantifiers.{all_pairs_push}
use Rattle.std.proofs.lemmas.List.Sorted.{All-permutation, Contains-permutation}
use Rattle.std.proofs.lemmas.Map.Keys.{ge_from_not_lt}
use Rattle.tm_base.specs.Tables.{Tables}
use Rattle.tm_refs.specs.declared.compat.Compat.{Compat}
use Rattle.tm_refs.specs.Solved.{depth_in}
use Rattle.tm_refs.proofs.ListLemmas.{filter-at}
use Rattle.tm_refute.specs.declared.refuting.failing.Failing.{Failing}
use Rattle.tm_refute.specs.Failing.{AreFailing, AreSorted, fails_before}

abbrev pair_of : ℕ → ℕ → ℕ → Failing
pair_of depth r t = record { depth = depth; source = record { 0 = r }; target = record { 0 = t } }

-- by source, then by target
abbrev IsBefore : ℕ → ℕ → ℕ → ℕ → Type 0
IsBefore r t s u = (r < s) ⊎ ((r ≡ s) × (t < u))

abbrev IsPlacedBefore : Failing → Failing → Type 0
IsPlacedBefore p q = IsBefore p.source.0 p.target.0 q.source.0 q.target.0

-- the failing pairs of targets below the count that stand before the two, in rising order
pub record AreListed (compat : Compat) (count s u : ℕ) (pairs : List Failing) : Type 0 where
  pub each : All (λ p. depth_in compat p.source.0 p.target.0 ≡ Some p.depth) pairs
  pub before : All (λ p. IsBefore p.source.0 p.target.0 s u) pairs
  pub all : (r t depth : ℕ) → t < count → IsBefore r t s u → depth_in compat r t ≡ Some depth → Contains pairs (pair_of depth r t)
  pub rising : AllPairs IsPlacedBefore pairs

-- before the next target stands what stood before this one, or this one
next-target : (r t s u : ℕ) → IsBefore r t s (u + 1) → IsBefore r t s u ⊎ ((r ≡ s) × (t ≡ u))
next-target r t s u (inl less) = inl (inl less)
next-target r t s u (inr (same, below)) = go (cases_lt t u) where
  go : (t < u) ⊎ (u ≤ t) → IsBefore r t s u ⊎ ((r ≡ s) × (t ≡ u))
  go (inl less) = inl (inr (same, less))
  go (inr more) = inr (same, omega arith)

before-next : (s u : ℕ) (p : Failing) → IsBefore p.source.0 p.target.0 s u → IsBefore p.source.0 p.target.0 s (u + 1)
before-next s u p (inl less) = inl less
before-next s u p (inr (same, below)) = inr (same, omega arith)

module _ (compat : Compat) (count : ℕ) where
  pub listed-none : AreListed compat count 0 0 []
  listed-none = record {
    each = All-nil (λ p. depth_in compat p.source.0 p.target.0 ≡ Some p.depth);
    before = All-nil (λ p. IsBefore p.source.0 p.target.0 0 0);
    all = λ r t depth below before at. none r t before;
    rising = λ i j d less within. absurd (omega arith);
  } where
    none : {X : Type 0} (r t : ℕ) → IsBefore r t 0 0 → X
    none r t (inl less) = absurd (omega arith)
    none r t (inr (same, less)) = absurd (omega arith)

  module _ (s u : ℕ) (pairs : List Failing) (listed : AreListed compat count s u pairs) where
    -- the two don't fail
    pub listed-skip : depth_in compat s u ≡ None → AreListed compat count s (u + 1) pairs
    listed-skip holds = record {
      each = listed.each;
      before = All-weaker (λ p. IsBefore p.source.0 p.target.0 s u) (λ p. IsBefore p.source.0 p.target.0 s (u + 1)) (before-next s u) pairs listed.before;
      all = λ r t depth below before at. go r t depth below at (next-target r t s u before);
      rising = listed.rising;
    } where
      go : (r t depth : ℕ) → t < count → depth_in compat r t ≡ Some depth → IsBefore r t s u ⊎ ((r ≡ s) × (t ≡ u)) → Contains pairs (pair_of depth r t)
      go r t depth below at (inl before) = listed.all r t depth below before at
      go r t depth below at (inr (same, is)) = absurd cc

    -- the two fail
    pub listed-more : (depth : ℕ) → depth_in compat s u ≡ Some depth → AreListed compat count s (u + 1) (pairs ++ pair_of depth s u ∷ [])
    listed-more fails at = record {
      each = All-push (λ p. depth_in compat p.source.0 p.target.0 ≡ Some p.depth) pairs (pair_of fails s u) listed.each at;
      before = All-push (λ p. IsBefore p.source.0 p.target.0 s (u + 1)) pairs (pair_of fails s u)
          (All-weaker (λ p. IsBefore p.source.0 p.target.0 s u) (λ p. IsBefore p.source.0 p.target.0 s (u + 1)) (before-next s u) pairs listed.before)
          (inr (refl, omega arith));
      all = λ r t depth below before is. go r t depth below is (next-target r t s u before);
      rising = all_pairs_push IsPlacedBefore pairs (pair_of fails s u) listed.rising listed.before;
    } where
      go : (r t depth : ℕ) → t < count → depth_in compat r t ≡ Some depth → IsBefore r t s u ⊎ ((r ≡ s) × (t ≡ u)) → Contains (pairs ++ pair_of fails s u ∷ []) (pair_of depth r t)
      go r t depth below is (inl before) = Contains-append_left pairs (pair_of fails s u ∷ []) (pair_of depth r t) (listed.all r t depth below before is)
      go r t depth below is (inr (same, on)) =
          let this : pair_of fails s u ≡ pair_of depth r t = cc in
          subst (Contains (pairs ++ pair_of fails s u ∷ [])) this (Contains-push pairs (pair_of fails s u))

  -- all targets of a source are through
  pub listed-source : (s u : ℕ) (pairs : List Failing) → count ≤ u → AreListed compat count s u pairs → AreListed compat count (s + 1) 0 pairs
  listed-source s u pairs through listed = record {
    each = listed.each;
    before = All-weaker (λ p. IsBefore p.source.0 p.target.0 s u) (λ p. IsBefore p.source.0 p.target.0 (s + 1) 0) (λ p. next p.source.0 p.target.0) pairs listed.before;
    all = λ r t depth below before. listed.all r t depth below (back r t below before);
    rising = listed.rising;
  } where
    next : (r t : ℕ) → IsBefore r t s u → IsBefore r t (s + 1) 0
    next r t (inl less) = inl (omega arith)
    next r t (inr (same, below)) = inl (omega arith)

    back : (r t : ℕ) → t < count → IsBefore r t (s + 1) 0 → IsBefore r t s u
    back r t below (inr (same, none)) = absurd (omega arith)
    back r t below (inl less) = go (cases_lt r s) where
      go : (r < s) ⊎ (s ≤ r) → IsBefore r t s u
      go (inl before) = inl before
      go (inr from) = inr (omega arith, omega arith)

-- by falling depth
abbrev deeper : Failing → Failing → Bool
deeper p q = is_lt (nat_cmp q.depth p.depth)

even : (p q : Failing) → p.depth ≡ q.depth → ties deeper p q ≡ true
even p q e =
    and_from _ _ (ap (λ o. not (is_lt o)) (sym (nat_cmp_is q.depth p.depth Equal (sym e))))
    (ap (λ o. not (is_lt o)) (sym (nat_cmp_is p.depth q.depth Equal e)))

sorted-rest : (y : Failing) (ys : List Failing) → IsSortedBy deeper (y ∷ ys) → IsSortedBy deeper ys
sorted-rest y ys h = λ k d a b. subst (λ n. deeper (get_or (y ∷ ys) n d) (get_or ys k d) ≡ false) (suc-add k 1) (h (suc k) d (omega arith) (omega arith))

none-deeper : (y : Failing) (ys : List Failing) → IsSortedBy deeper (y ∷ ys) → All (λ q. q.depth ≤ y.depth) ys
none-deeper y [] h = All-nil (λ q. q.depth ≤ y.depth)
none-deeper y (z ∷ zs) h =
    let first : z.depth ≤ y.depth = ge_from_not_lt y.depth z.depth (h 0 y (omega arith) (omega arith)) in
    All-cons (λ q. q.depth ≤ y.depth) z zs first
    (All-weaker (λ q. q.depth ≤ z.depth) (λ q. q.depth ≤ y.depth) (λ q l. omega arith) zs (none-deeper z zs (sorted-rest y (z ∷ zs) h)))

-- pairs of a list from which the first may be left out
pairs-rest : (b : Bool) (y : Failing) (zs : List Failing) → AllPairs IsPlacedBefore (cond b (y ∷ zs) zs) → AllPairs IsPlacedBefore zs
pairs-rest true y zs h = λ i j d less within. h (suc i) (suc j) d (omega arith) (omega arith)
pairs-rest false y zs h = h

pairs-first : (b : Bool) (y : Failing) (zs : List Failing) → b ≡ true → AllPairs IsPlacedBefore (cond b (y ∷ zs) zs) → All (IsPlacedBefore y) zs
pairs-first true y zs e h = λ k d within. h 0 (suc k) d (omega arith) (omega arith)
pairs-first false y zs e h = cc

placed : (p q : Failing) → p.depth ≡ q.depth → IsPlacedBefore p q → IsTrue (fails_before p q)
placed p q e (inl less) = or_right _ _ (and_from _ _ (eq-eqb p.depth q.depth e) (or_left _ _ (lt-ltb p.source.0 q.source.0 less)))
placed p q e (inr (same, less)) =
    or_right _ _ (and_from _ _ (eq-eqb p.depth q.depth e) (or_right _ _ (and_from _ _ (eq-eqb p.source.0 q.source.0 same) (lt-ltb p.target.0 q.target.0 less))))

-- by falling depth, and those of one depth by source and target
sorted-within : (ys : List Failing) → IsSortedBy deeper ys → ((x : Failing) → AllPairs IsPlacedBefore (filter (ties deeper x) ys)) → AreSorted ys
sorted-within [] h places = tt
sorted-within (y ∷ ys) h places = (
  λ k d within. first (get_or ys k d) (All-contains_itself ys k d within) (none-deeper y ys h k d within),
  sorted-within ys (sorted-rest y ys h) (λ x. pairs-rest (ties deeper x y) y (filter (ties deeper x) ys) (places x)),
) where
  first : (q : Failing) → Contains ys q → q.depth ≤ y.depth → IsTrue (fails_before y q)
  first q (k, within, is) most = go (cases_lt q.depth y.depth) where
    go : (q.depth < y.depth) ⊎ (y.depth ≤ q.depth) → IsTrue (fails_before y q)
    go (inl less) = or_left _ _ (lt-ltb q.depth y.depth less)
    go (inr more) =
        let same : y.depth ≡ q.depth = omega arith in
        let tied = pairs-first (ties deeper y y) y (filter (ties deeper y) ys) (even y y refl) (places y) in
        placed y q same (All-contains (IsPlacedBefore y) (filter (ties deeper y) ys) q tied (filter-at (ties deeper y) ys q k within is (even y q same)))

-- a stable sort by falling depth puts the listed pairs in order
pub failing-sorted : (tables : Tables) (compat : Compat) (count s u : ℕ) (xs ys : List Failing) → length tables.refs ≤ count → count ≤ s → AreListed compat count s u xs
    → IsPermutation xs ys → IsSortedBy deeper ys → IsStableBy deeper xs ys → AreFailing tables compat ys
failing-sorted tables compat count s u xs ys enough through listed moved sorted stable = record {
  each = All-permutation (λ p. depth_in compat p.source.0 p.target.0 ≡ Some p.depth) xs ys moved listed.each;
  all = λ r t depth source target at. Contains-permutation xs ys (pair_of depth r t) moved (listed.all r t depth (omega arith) (inl (omega arith)) at);
  sorted = sorted-within ys sorted (λ x. subst (AllPairs IsPlacedBefore) (sym (stable x)) (AllPairs-filter IsPlacedBefore (ties deeper x) xs listed.rising));
}
