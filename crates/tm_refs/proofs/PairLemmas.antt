-- All pairs of so many references: each once, row by row.
use Rattle.std.proofs.Common.{◌≡◌, ℕ, zero, suc, ◌+◌, ◌*◌, ◌<◌, ◌≤◌, ◌⊎◌, inl, inr, sym, ◌∙◌, ap, subst, List, [], ◌∷◌, ◌++◌, length, arith, append_assoc, length-append}
use Rattle.std.specs.List.{Contains, flat_map, range_with_len}
use Rattle.std.proofs.lemmas.Bool.{cases_lt}
use Rattle.std.proofs.lemmas.Grind.{flat_map-append}
use Rattle.std.proofs.lemmas.List.{append-nil}
use Rattle.std.proofs.lemmas.List.Elements.{Contains-append_left, Contains-append_right}
use Rattle.std.proofs.lemmas.List.FromFn.{length-map-range_with_len, map-range_with_len_more, get_or-map-range_with_len}
use Rattle.tm_refs.specs.declared.pair.Pair.{Pair}
use Rattle.tm_refs.specs.Looks.{pair_of, pairs_below, pairs_from}

-- one number more
range-more : (a n : ℕ) → range_with_len a (suc n) ≡ range_with_len a n ++ (a + n) ∷ []
range-more a zero = ap (λ (k : ℕ). k ∷ []) (omega arith)
range-more a (suc n) =
    let e : a + 1 + n ≡ a + suc n = omega arith in
    ap (λ ks. a ∷ ks) (range-more (a + 1) n ∙ ap (λ (k : ℕ). range_with_len (a + 1) n ++ k ∷ []) e)

-- one target more
pub pairs_from-more : (r n : ℕ) → pairs_from r (n + 1) ≡ pairs_from r n ++ pair_of r n ∷ []
pairs_from-more r n = map-range_with_len_more (pair_of r) 0 n n (omega arith)

-- one source more
rows-suc : (count r : ℕ) → flat_map (λ k. pairs_from k count) (range_with_len 0 (suc r)) ≡ flat_map (λ k. pairs_from k count) (range_with_len 0 r) ++ pairs_from r count
rows-suc count r =
    let f : 0 + r ≡ r = omega arith in
    ap (flat_map (λ k. pairs_from k count)) (range-more 0 r ∙ ap (λ (k : ℕ). range_with_len 0 r ++ k ∷ []) f)
    ∙ (flat_map-append (λ k. pairs_from k count) (range_with_len 0 r) (r ∷ [])
    ∙ ap (λ (ps : List Pair). flat_map (λ k. pairs_from k count) (range_with_len 0 r) ++ ps) (append-nil (pairs_from r count)))

pub rows-more : (count r : ℕ) → flat_map (λ k. pairs_from k count) (range_with_len 0 (r + 1)) ≡ flat_map (λ k. pairs_from k count) (range_with_len 0 r) ++ pairs_from r count
rows-more count r = let e : r + 1 ≡ suc r = omega arith in ap (λ (k : ℕ). flat_map (λ k'. pairs_from k' count) (range_with_len 0 k)) e ∙ rows-suc count r

row-has : (r t n : ℕ) → t < n → Contains (pairs_from r n) (pair_of r t)
row-has r t n below = (t, omega (arith, length-map-range_with_len (pair_of r) 0 n), get_or-map-range_with_len (pair_of r) 0 n t t (pair_of r t) below (omega arith))

rows-have : (r t count n : ℕ) → t < count → r < n → Contains (flat_map (λ k. pairs_from k count) (range_with_len 0 n)) (pair_of r t)
rows-have r t count zero below h = absurd (omega arith)
rows-have r t count (suc n) below h = subst (λ (ps : List Pair). Contains ps (pair_of r t)) (sym (rows-suc count n)) (go (rows-have r t count n below) (cases_lt r n)) where
  go : (r < n → Contains (flat_map (λ k. pairs_from k count) (range_with_len 0 n)) (pair_of r t)) → (r < n) ⊎ (n ≤ r) → Contains (flat_map (λ k. pairs_from k count) (range_with_len 0 n) ++ pairs_from n count) (pair_of r t)
  go rest (inl less) = Contains-append_left _ _ (pair_of r t) (rest less)
  go rest (inr past) =
      let e : n ≡ r = omega arith in
      Contains-append_right _ _ (pair_of r t) (subst (λ (k : ℕ). Contains (pairs_from k count) (pair_of r t)) (sym e) (row-has r t count below))

-- each pair of numbers below one is there
pub pairs_below-has : (r t n : ℕ) → r < n → t < n → Contains (pairs_below n) (pair_of r t)
pairs_below-has r t n h below = rows-have r t n n below h

length-rows : (count n : ℕ) → length (flat_map (λ k. pairs_from k count) (range_with_len 0 n)) ≡ n * count
length-rows count zero = omega arith
length-rows count (suc n) =
    ap length (rows-suc count n)
    ∙ (length-append (flat_map (λ k. pairs_from k count) (range_with_len 0 n)) (pairs_from n count)
    ∙ omega (arith, length-rows count n, length-map-range_with_len (pair_of n) 0 count))

pub length-pairs_below : (n : ℕ) → length (pairs_below n) ≡ n * n
length-pairs_below n = length-rows n n

-- the pairs of the sources so far, and of the next source those of the targets so far
abbrev pub pairs_until : ℕ → ℕ → ℕ → List Pair
pairs_until count r t = flat_map (λ k. pairs_from k count) (range_with_len 0 r) ++ pairs_from r t

pub target-step : (count r t : ℕ) (old new : List Pair) → new ≡ old ++ pair_of r t ∷ [] → old ≡ pairs_until count r t → new ≡ pairs_until count r (t + 1)
target-step count r t old new pushed so_far =
    pushed
    ∙ (ap (λ (ps : List Pair). ps ++ pair_of r t ∷ []) so_far
    ∙ (append_assoc (flat_map (λ k. pairs_from k count) (range_with_len 0 r)) (pairs_from r t) (pair_of r t ∷ [])
    ∙ ap (λ (ps : List Pair). flat_map (λ k. pairs_from k count) (range_with_len 0 r) ++ ps) (sym (pairs_from-more r t))))

pub source-step : (count r t : ℕ) (pairs : List Pair) → count ≤ t → t ≤ count → pairs ≡ pairs_until count r t → pairs ≡ flat_map (λ k. pairs_from k count) (range_with_len 0 (r + 1))
source-step count r t pairs past within so_far =
    let e : t ≡ count = omega arith in
    so_far ∙ (ap (λ (n : ℕ). pairs_until count r n) e ∙ sym (rows-more count r))
