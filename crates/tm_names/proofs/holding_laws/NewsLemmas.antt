-- Joining rows of flags leaves no more of them unset, and fewer where there is news.
use Rattle.std.proofs.Common.{◌≡◌, ℕ, zero, suc, ◌+◌, ◌<◌, ◌≤◌, refl, sym, ap, ◌∙◌, subst, arith, ⊎_elim, Bool, true, false, ◌||◌, List, [], ◌∷◌, length, map}
use Rattle.std.specs.List.{enumerate_from, list_any}
use Rattle.std.proofs.lemmas.Bool.{false≢true, or_cases, or_left}
use Rattle.tm_names.specs.Closures.{joined_flag, joined_row, next_row}
use Rattle.tm_names.specs.Held.{bit_at, has_news, have_news, is_news, is_row_news, row_at}

-- how many flags aren't set
pub unset : List Bool → ℕ
unset [] = 0
unset (true ∷ row) = unset row
unset (false ∷ row) = suc (unset row)

pub all_unset : List (List Bool) → ℕ
all_unset [] = 0
all_unset (row ∷ rows) = unset row + all_unset rows

one_more : (b : Bool) (row : List Bool) → unset (b ∷ row) ≤ suc (unset row)
unfolding unset
one_more true row = omega arith
one_more false row = omega arith

one_less : (b : Bool) (row : List Bool) → b ≡ true → unset (b ∷ row) ≡ unset row
unfolding unset
one_less true row e = refl
one_less false row e = absurd (false≢true e)

-- where none of two is so
neither : (a b : Bool) → (a || b) ≡ false → (a ≡ false) × (b ≡ false)
neither true b h = absurd (false≢true (sym h))
neither false b h = (refl, h)

module _ (other : List Bool) where
  abbrev joined : ℕ → List Bool → List Bool
  joined from row = map (joined_flag true other) (enumerate_from from row)

  no_more : (from : ℕ) (row : List Bool) → unset (joined from row) ≤ unset row
  unfolding unset
  no_more from [] = omega arith
  no_more from (true ∷ row) = no_more (from + 1) row
  no_more from (false ∷ row) = let few = no_more (from + 1) row in let here = one_more (bit_at other from) (joined (from + 1) row) in omega (arith, few, here)

  fewer : (from : ℕ) (row : List Bool) → list_any (is_news other) (enumerate_from from row) ≡ true → unset (joined from row) < unset row
  unfolding unset
  fewer from [] h = absurd (false≢true h)
  fewer from (true ∷ row) h = fewer (from + 1) row h
  fewer from (false ∷ row) h =
      ⊎_elim
      (λ t. let few = no_more (from + 1) row in let here = one_less (bit_at other from) (joined (from + 1) row) t in omega (arith, few, here))
      (λ t. let few = fewer (from + 1) row t in let here = one_more (bit_at other from) (joined (from + 1) row) in omega (arith, few, here))
      (or_cases (bit_at other from) (list_any (is_news other) (enumerate_from (from + 1) row)) h)

  no_news_from : (from : ℕ) (row : List Bool) → list_any (is_news other) (enumerate_from from row) ≡ false → (k n : ℕ) → k < length row → n ≡ from + k
      → bit_at other n ≡ true → bit_at row k ≡ true
  no_news_from from [] h k n l e t = absurd (omega (arith, l))
  no_news_from from (true ∷ row) h zero n l e t = refl
  no_news_from from (false ∷ row) h zero n l e t =
      let same : n ≡ from = omega (arith, e) in
      absurd (false≢true (sym h ∙ or_left (bit_at other from) _ (subst (λ i. bit_at other i ≡ true) same t)))
  no_news_from from (true ∷ row) h (suc k) n l e t = no_news_from (from + 1) row h k n (omega (arith, l)) (omega (arith, e)) t
  no_news_from from (false ∷ row) h (suc k) n l e t =
      no_news_from (from + 1) row (neither (bit_at other from) _ h).1 k n (omega (arith, l)) (omega (arith, e)) t

pub no_news : (row other : List Bool) → has_news row other ≡ false → (k : ℕ) → k < length row → bit_at other k ≡ true → bit_at row k ≡ true
no_news row other h k l t = no_news_from other 0 row h k k l (omega arith) t

module _ (others : List (List Bool)) where
  abbrev joined_from : ℕ → List (List Bool) → List (List Bool)
  joined_from from rows = map (joined_row others) (enumerate_from from rows)

  pub no_more_unset : (from : ℕ) (rows : List (List Bool)) → all_unset (joined_from from rows) ≤ all_unset rows
  unfolding all_unset
  no_more_unset from [] = omega arith
  no_more_unset from (row ∷ rows) = let few = no_more_unset (from + 1) rows in let here = no_more (row_at others from) 0 row in omega (arith, few, here)

  pub fewer_unset : (from : ℕ) (rows : List (List Bool)) → list_any (is_row_news others) (enumerate_from from rows) ≡ true → all_unset (joined_from from rows) < all_unset rows
  unfolding all_unset
  fewer_unset from [] h = absurd (false≢true h)
  fewer_unset from (row ∷ rows) h =
      ⊎_elim
      (λ t. let few = no_more_unset (from + 1) rows in let here = fewer (row_at others from) 0 row t in omega (arith, few, here))
      (λ t. let few = fewer_unset (from + 1) rows t in let here = no_more (row_at others from) 0 row in omega (arith, few, here))
      (or_cases (has_news row (row_at others from)) (list_any (is_row_news others) (enumerate_from (from + 1) rows)) h)

  no_row_news : (from : ℕ) (rows : List (List Bool)) → list_any (is_row_news others) (enumerate_from from rows) ≡ false → (i n : ℕ) → i < length rows → n ≡ from + i
      → has_news (row_at rows i) (row_at others n) ≡ false
  no_row_news from [] h i n l e = absurd (omega (arith, l))
  no_row_news from (row ∷ rows) h zero n l e =
      let same : from ≡ n = omega (arith, e) in
      subst (λ j. has_news row (row_at others j) ≡ false) same (neither (has_news row (row_at others from)) _ h).0
  no_row_news from (row ∷ rows) h (suc i) n l e =
      no_row_news (from + 1) rows (neither (has_news row (row_at others from)) _ h).1 i n (omega (arith, l)) (omega (arith, e))

  -- where there is no news, what is set in the other row is set
  pub settled : (rows : List (List Bool)) → have_news rows others ≡ false → (i k : ℕ) → i < length rows → k < length (row_at rows i)
      → bit_at (row_at others i) k ≡ true → bit_at (row_at rows i) k ≡ true
  settled rows h i k l g t = no_news (row_at rows i) (row_at others i) (no_row_news 0 rows h i i l (omega arith)) k g t

  -- the rows that are joined
  pub row_at_joined : (from : ℕ) (rows : List (List Bool)) (i n : ℕ) → i < length rows → n ≡ from + i → row_at (joined_from from rows) i ≡ next_row true (row_at rows i) (row_at others n)
  row_at_joined from [] i n l e = absurd (omega (arith, l))
  row_at_joined from (row ∷ rows) zero n l e = ap (λ j. next_row true row (row_at others j)) (let same : from ≡ n = omega (arith, e) in same)
  row_at_joined from (row ∷ rows) (suc i) n l e = row_at_joined (from + 1) rows i n (omega (arith, l)) (omega (arith, e))

  pub length_joined : (from : ℕ) (rows : List (List Bool)) → length (joined_from from rows) ≡ length rows
  length_joined from [] = refl
  length_joined from (row ∷ rows) = ap (λ n. suc n) (length_joined (from + 1) rows)
