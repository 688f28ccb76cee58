-- The order of words that are made of others.
use Rattle.std.proofs.Common.{◌≡◌, ◌⊎◌, inl, inr, Bool, true, false, ◌||◌, ◌&&◌, not, [], ◌∷◌, ◌++◌, length, refl, sym, ◌∙◌, subst, arith}
use Rattle.tm_base.specs.declared.cell.Cell.{Cell}
use Rattle.tm_base.specs.Cells.{Word}
use Rattle.tm_base.specs.Orders.{list_less, cell_less, word_less}
use Rattle.tm_base.proofs.OrderLemmas.{word_less-total, word_less-asym, word_less-trans}
use Rattle.tm_auto.proofs.SetLemmas.{bool_cases}
use Rattle.tm_auto.proofs.LeastLemmas.{cell_less-irreflexive}

parts : (b c rest : Bool) → (b || (not c && rest)) ≡ true → (b ≡ true) ⊎ ((c ≡ false) × (rest ≡ true))
parts true c rest h = inl refl
parts false true rest h = cc
parts false false rest h = inr (refl, h)

by_first : (b c rest : Bool) → b ≡ true → (b || (not c && rest)) ≡ true
by_first true c rest h = refl
by_first false c rest h = cc

by_others : (b c rest : Bool) → c ≡ false → rest ≡ true → (b || (not c && rest)) ≡ true
by_others true c rest e h = refl
by_others false true rest e h = cc
by_others false false rest e h = h

pub nothing_less : word_less [] [] ≡ false
unfolding list_less
nothing_less = refl

-- a lesser beginning decides
pub less_begins : (u v x y : Word) → length u ≡ length v → word_less u v ≡ true → word_less (u ++ x) (v ++ y) ≡ true
unfolding list_less
less_begins [] [] x y l h = cc
less_begins [] (d ∷ v) x y l h = absurd (omega arith)
less_begins (c ∷ u) [] x y l h = absurd (omega arith)
less_begins (c ∷ u) (d ∷ v) x y l h = by (parts (cell_less c d) (cell_less d c) (word_less u v) h) (less_begins u v x y (omega arith))
  where
    by : (cell_less c d ≡ true) ⊎ ((cell_less d c ≡ false) × (word_less u v ≡ true)) → (word_less u v ≡ true → word_less (u ++ x) (v ++ y) ≡ true) → (cell_less c d || (not (cell_less d c) && word_less (u ++ x) (v ++ y))) ≡ true
    by (inl a) f = by_first (cell_less c d) (cell_less d c) (word_less (u ++ x) (v ++ y)) a
    by (inr (a, b)) f = by_others (cell_less c d) (cell_less d c) (word_less (u ++ x) (v ++ y)) a (f b)

-- behind the same beginning the rest does
pub less_behind : (u x y : Word) → word_less (u ++ x) (u ++ y) ≡ word_less x y
unfolding list_less
less_behind [] x y = refl
less_behind (c ∷ u) x y = let i = cell_less-irreflexive c in rw i (less_behind u x y)

pub less_cell : (c d : Cell) → word_less (c ∷ []) (d ∷ []) ≡ cell_less c d
unfolding list_less
less_cell c d = go (cell_less c d) (cell_less d c)
  where
    go : (a b : Bool) → (a || (not b && false)) ≡ a
    go true b = refl
    go false true = refl
    go false false = refl

pub word_less-irreflexive : (w : Word) → word_less w w ≡ false
word_less-irreflexive w = elim (bool_cases (word_less w w)) [ inl a ↦ (let b = word_less-asym w w a in cc) | inr a ↦ a ]

-- of a word that isn't less than another, the other is less, or it is that one
pub at_most : (u v : Word) → word_less v u ≡ false → (word_less u v ≡ true) ⊎ (u ≡ v)
at_most u v h = elim (bool_cases (word_less u v)) [ inl a ↦ inl a | inr a ↦ inr (word_less-total u v a h) ]

pub less_most : (u v w : Word) → word_less u v ≡ true → word_less w v ≡ false → word_less u w ≡ true
less_most u v w a b = elim (at_most v w b) [ inl c ↦ word_less-trans u v w a c | inr e ↦ subst (λ (z : Word). word_less u z ≡ true) e a ]

-- one cell behind a word that isn't less, and itself isn't less
pub last_not_less : (u v : Word) (c d : Cell) → length u ≡ length v → word_less v u ≡ false → cell_less d c ≡ false → word_less (v ++ d ∷ []) (u ++ c ∷ []) ≡ false
last_not_less u v c d l h k = elim (at_most u v h) [
  | inl a ↦ word_less-asym (u ++ c ∷ []) (v ++ d ∷ []) (less_begins u v (c ∷ []) (d ∷ []) l a)
  | inr e ↦ subst (λ (z : Word). word_less (z ++ d ∷ []) (u ++ c ∷ []) ≡ false) e (less_behind u (d ∷ []) (c ∷ []) ∙ less_cell d c ∙ k)
]

-- of two words, one beginning is less, or it is the other's and the rest decides
pub less_split : (u v x y : Word) → length u ≡ length v → word_less (u ++ x) (v ++ y) ≡ true → (word_less u v ≡ true) ⊎ ((u ≡ v) × (word_less x y ≡ true))
less_split u v x y l h = elim (bool_cases (word_less v u)) [
  | inl a ↦ (let b = word_less-asym (v ++ y) (u ++ x) (less_begins v u y x (sym l) a) in cc)
  | inr a ↦ elim (at_most u v a) [
    | inl b ↦ inl b
    | inr e ↦ inr (e, sym (less_behind u x y) ∙ subst (λ (z : Word). word_less (u ++ x) (z ++ y) ≡ true) (sym e) h)
  ]
]
