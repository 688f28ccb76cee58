-- The rows of flags say which ways there are.
use Rattle.std.proofs.Common.{◌≡◌, ℕ, zero, suc, ◌+◌, ◌<◌, refl, sym, ap, ◌∙◌, subst, arith, Bool, true, false, ◌||◌, ◌&&◌, List, [], ◌∷◌, length, map}
use Rattle.std.specs.Prelude.{slice_get, unwrap_or, Option, Some, None}
use Rattle.std.specs.List.{enumerate_from}
use Rattle.std.proofs.lemmas.Bool.{false≢true}
use Rattle.std.proofs.lemmas.Option.{none-some}
use Rattle.tm_names.specs.Closures.{closure, joined_flag, next_row, next_rows, through}
use Rattle.tm_names.specs.Held.{bit_at, row_at}

-- what stands at a place
pub some_at : {X : Type 0} (xs : List X) (i : ℕ) → i < length xs → (x : X) × (slice_get xs i ≡ Some x)
some_at [] i h = absurd (omega arith)
some_at (x ∷ xs) zero h = (x, refl)
some_at (x ∷ xs) (suc i) h = some_at xs i (omega arith)

pub get_map : {X Y : Type 0} (f : X → Y) (xs : List X) (i : ℕ) (x : X) → slice_get xs i ≡ Some x → slice_get (map f xs) i ≡ Some (f x)
get_map f [] i x e = absurd (none-some x e)
get_map {X} {Y} f (y ∷ ys) zero x e = ap (λ (o : Option X). mapped o) e
  where
    mapped : Option X → Option Y
    mapped None = None
    mapped (Some z) = Some (f z)
get_map f (y ∷ ys) (suc i) x e = get_map f ys i x e

pub length_map : {X Y : Type 0} (f : X → Y) (xs : List X) → length (map f xs) ≡ length xs
length_map f [] = refl
length_map f (x ∷ xs) = ap (λ n. suc n) (length_map f xs)

pub bit_within : (row : List Bool) (j : ℕ) → bit_at row j ≡ true → j < length row
bit_within [] j e = absurd (false≢true e)
bit_within (x ∷ xs) zero e = omega arith
bit_within (x ∷ xs) (suc j) e = let h = bit_within xs j e in omega (arith, h)

pub row_within : (rows : List (List Bool)) (i j : ℕ) → bit_at (row_at rows i) j ≡ true → i < length rows
row_within [] i j e = absurd (false≢true e)
row_within (x ∷ xs) zero j e = omega arith
row_within (x ∷ xs) (suc i) j e = let h = row_within xs i j e in omega (arith, h)

pub row_of_map : {X : Type 0} (f : X → List Bool) (xs : List X) (i : ℕ) (x : X) → slice_get xs i ≡ Some x → row_at (map f xs) i ≡ f x
row_of_map f xs i x e = ap (λ o. unwrap_or o []) (get_map f xs i x e)

pub next_length : (joins : Bool) (other : List Bool) (from : ℕ) (row : List Bool) → length (map (joined_flag joins other) (enumerate_from from row)) ≡ length row
next_length joins other from [] = refl
next_length joins other from (x ∷ xs) = ap (λ n. suc n) (next_length joins other (from + 1) xs)

pub next_bit : (joins : Bool) (other : List Bool) (from : ℕ) (row : List Bool) (j n : ℕ) → j < length row → n ≡ from + j
    → bit_at (map (joined_flag joins other) (enumerate_from from row)) j ≡ (bit_at row j || (joins && bit_at other n))
next_bit joins other from [] j n h e = absurd (omega arith)
next_bit joins other from (x ∷ xs) zero n h e =
    let same : from ≡ n = omega (arith, e) in ap (λ k. x || (joins && bit_at other k)) same
next_bit joins other from (x ∷ xs) (suc j) n h e = next_bit joins other (from + 1) xs j n (omega arith) (omega (arith, e))

-- a row that leads on from nowhere is as it was
pub same_row : (other : List Bool) (from : ℕ) (row : List Bool) → map (joined_flag false other) (enumerate_from from row) ≡ row
same_row other from [] = refl
same_row other from (true ∷ row) = ap (λ those. true ∷ those) (same_row other (from + 1) row)
same_row other from (false ∷ row) = ap (λ those. false ∷ those) (same_row other (from + 1) row)

-- rows of one size that say which ways lead through numbers below a bound
pub record Admits (n : ℕ) (edge : ℕ → ℕ → Bool) (k : ℕ) (rows : List (List Bool)) : Type 0 where
  pub high : length rows ≡ n
  pub wide : (i : ℕ) → i < n → length (row_at rows i) ≡ n
  pub bits : (i j : ℕ) → i < n → j < n → bit_at (row_at rows i) j ≡ through edge k i j

module _ (n : ℕ) (edge : ℕ → ℕ → Bool) where
  at_row : (rows : List (List Bool)) (i : ℕ) → i < length rows → slice_get rows i ≡ Some (row_at rows i)
  at_row [] i h = absurd (omega arith)
  at_row (x ∷ xs) zero h = refl
  at_row (x ∷ xs) (suc i) h = at_row xs i (omega arith)

  next_at : (k : ℕ) (rows : List (List Bool)) (i : ℕ) → i < length rows
      → row_at (next_rows k rows) i ≡ next_row (bit_at (row_at rows i) k) (row_at rows i) (row_at rows k)
  next_at k rows i h = row_of_map (λ row. next_row (bit_at row k) row (row_at rows k)) rows i (row_at rows i) (at_row rows i h)

  next_admits : (k : ℕ) (rows : List (List Bool)) → k < n → Admits n edge k rows → Admits n edge (suc k) (next_rows k rows)
  next_admits k rows l a = record {
    high = length_map (λ row. next_row (bit_at row k) row (row_at rows k)) rows ∙ a.high;
    wide = λ i h. ap length (next_at k rows i (subst (λ m. i < m) (sym a.high) h))
        ∙ (next_length (bit_at (row_at rows i) k) (row_at rows k) 0 (row_at rows i) ∙ a.wide i h);
    bits = λ i j h g. ap (λ row. bit_at row j) (next_at k rows i (subst (λ m. i < m) (sym a.high) h))
        ∙ (next_bit (bit_at (row_at rows i) k) (row_at rows k) 0 (row_at rows i) j j (subst (λ m. j < m) (sym (a.wide i h)) g) (omega arith)
        ∙ (ap (λ b. b || (bit_at (row_at rows i) k && bit_at (row_at rows k) j)) (a.bits i j h g)
        ∙ (ap (λ b. through edge k i j || (b && bit_at (row_at rows k) j)) (a.bits i k h l)
        ∙ ap (λ b. through edge k i j || (through edge k i k && b)) (a.bits k j l g))));
  }

  pub closure_admits : (m k : ℕ) (rows : List (List Bool)) → k + m ≡ n → Admits n edge k rows → Admits n edge n (closure k m rows)
  closure_admits zero k rows e a = subst (λ b. Admits n edge b rows) (let same : k ≡ n = omega (arith, e) in same) a
  closure_admits (suc m) k rows e a =
      closure_admits m (k + 1) (next_rows k rows) (omega (arith, e))
      (subst (λ b. Admits n edge b (next_rows k rows)) (let same : suc k ≡ k + 1 = omega arith in same) (next_admits k rows (omega (arith, e)) a))
