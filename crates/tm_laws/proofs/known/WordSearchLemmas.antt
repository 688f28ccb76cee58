-- All words of a length whose references have numbers below a bound, as a list.
use Rattle.std.proofs.Common.{◌≡◌, ℕ, zero, suc, ◌<◌, ◌⊎◌, inl, inr, refl, ap, List, [], ◌∷◌, ◌++◌, map, length, arith}
use Rattle.std.specs.List.{All, flat_map}
use Rattle.std.proofs.lemmas.Bool.{cases_eq}
use Rattle.std.proofs.lemmas.List.Elements.{All-head, All-tail}
use Rattle.tm_base.specs.declared.cell.Cell.{Cell}
use Rattle.tm_base.specs.declared.cell.Cell.TheVariants.{Byte, Uninit, Ptr}
use Rattle.tm_base.specs.Cells.{Word}
use Rattle.tm_laws.proofs.whole.Words.{IsCellOf, most_bytes}
use Rattle.tm_laws.proofs.known.ListedLemmas.{IsIn, IsIn-left, IsIn-right, IsIn-map, IsIn-flat_map, Listed}

-- a byte's number is below 256, and a reference's byte is one of the most that a reference below n has
abbrev pub IsWithin : ℕ → Cell → Type 0
IsWithin n = IsCellOf (λ x. x < n)

pub below : ℕ → List ℕ
below zero = []
below (suc n) = n ∷ below n

pub below-has : (n k : ℕ) → k < n → IsIn k (below n)
unfolding below
below-has zero k h = absurd (omega arith)
below-has (suc n) k h = go (λ l. below-has n k l) (cases_eq n k) where
  go : (k < n → IsIn k (below n)) → (n ≡ k) ⊎ (n ≡ k → ⊥) → (n ≡ k) ⊎ IsIn k (below n)
  go rest (inl e) = inl e
  go rest (inr f) = inr (rest (omega arith))

pub below-only : (n k : ℕ) → IsIn k (below n) → k < n
unfolding below
below-only zero k h = absurd h
below-only (suc n) k (inl e) = omega arith
below-only (suc n) k (inr h) = omega (arith, below-only n k h)

pub length-below : (n : ℕ) → length (below n) ≡ n
unfolding below
length-below zero = refl
length-below (suc n) = ap suc (length-below n)

pub Listed-below : (n : ℕ) → Listed (λ (k : ℕ). k < n)
Listed-below n = record { items = below n; has = below-has n }

abbrev pointer_cell : ℕ → ℕ → Cell
pointer_cell r k = Ptr (record { 0 = r }) k

cells : ℕ → List Cell
cells n = map Byte (below 256) ++ (Uninit ∷ flat_map (λ r. map (pointer_cell r) (below most_bytes)) (below n))

cells-has : (n : ℕ) (c : Cell) → IsWithin n c → IsIn c (cells n)
unfolding cells
cells-has n (Byte b) h = IsIn-left (map Byte (below 256)) _ (Byte b) (IsIn-map Byte (below 256) b (below-has 256 b h))
cells-has n Uninit h = IsIn-right (map Byte (below 256)) (Uninit ∷ flat_map (λ r. map (pointer_cell r) (below most_bytes)) (below n)) Uninit (inl refl)
cells-has n (Ptr r k) (l, h) =
    IsIn-right (map Byte (below 256)) (Uninit ∷ flat_map (λ r. map (pointer_cell r) (below most_bytes)) (below n)) (Ptr r k)
    (inr (IsIn-flat_map (λ r. map (pointer_cell r) (below most_bytes)) (below n) r.0 (Ptr r k) (below-has n r.0 l) (IsIn-map (pointer_cell r.0) (below most_bytes) k (below-has most_bytes k h))))

words : ℕ → ℕ → List Word
words n zero = [] ∷ []
words n (suc m) = flat_map (λ c. map (λ w. c ∷ w) (words n m)) (cells n)

words-has : (n m : ℕ) (w : Word) → length w ≡ m → All (IsWithin n) w → IsIn w (words n m)
unfolding words
words-has n zero [] e all = inl refl
words-has n zero (c ∷ w) e all = absurd (omega arith)
words-has n (suc m) [] e all = absurd (omega arith)
words-has n (suc m) (c ∷ w) e all =
    IsIn-flat_map (λ c. map (λ w. c ∷ w) (words n m)) (cells n) c (c ∷ w) (cells-has n c (All-head (IsWithin n) c w all))
    (IsIn-map (λ (u : Word). c ∷ u) (words n m) w (words-has n m w (omega arith) (All-tail (IsWithin n) c w all)))

-- words of one length with references below a bound are listed
pub Listed-words : (n m : ℕ) (P : Word → Type 0) → ((w : Word) → P w → (length w ≡ m) × All (IsWithin n) w) → Listed P
Listed-words n m P within = record { items = words n m; has = λ w p. words-has n m w (within w p).0 (within w p).1 }
