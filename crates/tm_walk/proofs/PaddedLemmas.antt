-- What the bytes up to a place hold where a word was written.
use Rattle.std.proofs.Common.{◌≡◌, ℕ, zero, suc, ◌-◌, ◌≤◌, [], ◌∷◌, ◌++◌, length, take, get_or, refl, sym, ap, ◌∙◌, arith}
use Rattle.std.specs.Prelude.{replicate}
use Rattle.std.proofs.lemmas.List.{get_or_past}
use Rattle.tm_base.specs.declared.cell.Cell.{Cell}
use Rattle.tm_base.specs.declared.cell.Cell.TheVariants.{Uninit}
use Rattle.tm_base.specs.Cells.{Word, fit}
use Rattle.tm_auto.specs.Joined.{JoinedAfter, HasNoOwn}

-- so many cells: the word's first ones, and behind its end uninitialised bytes
abbrev pub padded : Word → ℕ → Word
padded w zero = []
padded [] (suc p) = Uninit ∷ padded [] p
padded (c ∷ w) (suc p) = c ∷ padded w p

-- the cell at a place
abbrev pub cell_at : Word → ℕ → Cell
cell_at w p = get_or w p Uninit

nothing_padded : (p : ℕ) → padded [] p ≡ replicate p Uninit
nothing_padded zero = refl
nothing_padded (suc p) = ap (λ (z : Word). Uninit ∷ z) (nothing_padded p)

pub fit-padded : (w : Word) (m : ℕ) → fit w m ≡ padded w m
fit-padded w zero = let none : 0 - length w ≡ 0 = omega arith in rw none refl
fit-padded [] (suc m) = let all : suc m - 0 ≡ suc m = omega arith in rw all (sym (nothing_padded (suc m)))
fit-padded (c ∷ w) (suc m) =
    let less : suc m - suc (length w) ≡ m - length w = omega arith in
    rw less (ap (λ (z : Word). c ∷ z) (fit-padded w m))

pub take-padded : (w : Word) (p m : ℕ) → p ≤ m → take p (padded w m) ≡ padded w p
take-padded w zero m l = refl
take-padded w (suc p) zero l = absurd (omega arith)
take-padded [] (suc p) (suc m) l = ap (λ (z : Word). Uninit ∷ z) (take-padded [] p m (omega arith))
take-padded (c ∷ w) (suc p) (suc m) l = ap (λ (z : Word). c ∷ z) (take-padded w p m (omega arith))

pub take-fit : (w : Word) (p m : ℕ) → p ≤ m → take p (fit w m) ≡ padded w p
take-fit w p m l = ap (take p) (fit-padded w m) ∙ take-padded w p m l

pub length-padded : (w : Word) (p : ℕ) → length (padded w p) ≡ p
length-padded w zero = refl
length-padded [] (suc p) = ap suc (length-padded [] p)
length-padded (c ∷ w) (suc p) = ap suc (length-padded w p)

pub padded_more : (w : Word) (p : ℕ) → padded w (suc p) ≡ padded w p ++ cell_at w p ∷ []
padded_more [] zero = refl
padded_more [] (suc p) = ap (λ (z : Word). Uninit ∷ z) (padded_more [] p)
padded_more (c ∷ w) zero = refl
padded_more (c ∷ w) (suc p) = ap (λ (z : Word). c ∷ z) (padded_more w p)

-- behind the word's end
pub cell_past : (w : Word) (p : ℕ) → length w ≤ p → cell_at w p ≡ Uninit
cell_past w p l = get_or_past w p Uninit l

-- a word's first cells are those
pub padded_front : (u t : Word) → padded (u ++ t) (length u) ≡ u
padded_front [] t = refl
padded_front (c ∷ u) t = ap (λ (z : Word). c ∷ z) (padded_front u t)

pub padded_self : (w : Word) → padded w (length w) ≡ w
padded_self [] = refl
padded_self (c ∷ w) = ap (λ (z : Word). c ∷ z) (padded_self w)

pub padded_within : (w : Word) (p : ℕ) → p ≤ length w → (t : Word) × (w ≡ padded w p ++ t)
padded_within w zero l = (w, refl)
padded_within [] (suc p) l = absurd (omega arith)
padded_within (c ∷ w) (suc p) l = let (t, e) = padded_within w p (omega arith) in (t, ap (λ (z : Word). c ∷ z) e)

-- those of a shorter list begin those of a longer one
pub padded_split : (w : Word) (p m : ℕ) → p ≤ m → (t : Word) × (padded w m ≡ padded w p ++ t)
padded_split w zero m l = (padded w m, refl)
padded_split w (suc p) zero l = absurd (omega arith)
padded_split [] (suc p) (suc m) l = let (t, e) = padded_split [] p m (omega arith) in (t, ap (λ (z : Word). Uninit ∷ z) e)
padded_split (c ∷ w) (suc p) (suc m) l = let (t, e) = padded_split w p m (omega arith) in (t, ap (λ (z : Word). c ∷ z) e)

pub joined-padded : (before : Cell) (w : Word) (p : ℕ) → JoinedAfter before w → JoinedAfter before (padded w p)
joined-padded before w zero j = tt
joined-padded before [] (suc p) j = (tt, joined-padded Uninit [] p tt)
joined-padded before (c ∷ w) (suc p) (f, j) = (f, joined-padded c w p j)

pub no_own-padded : (w : Word) (p : ℕ) → HasNoOwn w → HasNoOwn (padded w p)
no_own-padded w zero n = tt
no_own-padded [] (suc p) n = (tt, no_own-padded [] p tt)
no_own-padded (c ∷ w) (suc p) (n, ns) = (n, no_own-padded w p ns)
