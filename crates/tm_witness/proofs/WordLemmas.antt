-- The order of words goes cell by cell.
use Rattle.std.proofs.Common.{◌≡◌, ℕ, ◌+◌, ◌-◌, ◌<◌, Bool, true, false, [], ◌∷◌, length, drop, get_or, min, nat_lt, refl, arith, length-drop}
use Rattle.std.proofs.lemmas.Bool.Decides.{nat_tests}
use Rattle.std.proofs.lemmas.List.{drop_more}
use Rattle.tm_base.specs.declared.cell.Cell.{Cell}
use Rattle.tm_base.specs.Cells.{Word}
use Rattle.tm_base.specs.Orders.{list_less, cell_less, word_less}

module _ (v w : Word) (k : ℕ) where
  -- the order of what two words have from a place on
  abbrev pub less_from : Bool
  less_from = word_less (drop k v) (drop k w)

  -- the cells at a place that both words have
  module _ (c d : Cell) (in_v : k < length v) (in_w : k < length w) (at_v : c ≡ get_or v k c) (at_w : d ≡ get_or w k d) where
    pub less-first : cell_less c d ≡ true → less_from ≡ true
    unfolding list_less
    less-first less = rw (drop_more v k c in_v, drop_more w k d in_w, ← at_v, ← at_w, less) refl

    pub less-second : cell_less c d ≡ false → cell_less d c ≡ true → less_from ≡ false
    unfolding list_less
    less-second not less = rw (drop_more v k c in_v, drop_more w k d in_w, ← at_v, ← at_w, not, less) refl

    pub less-behind : cell_less c d ≡ false → cell_less d c ≡ false → less_from ≡ word_less (drop (k + 1) v) (drop (k + 1) w)
    unfolding list_less
    less-behind not nor = rw (drop_more v k c in_v, drop_more w k d in_w, ← at_v, ← at_w, not, nor) refl

  -- where one word ends
  pub less-end : k ≡ min (length v) (length w) → less_from ≡ nat_lt (length v) (length w)
  unfolding list_less
  less-end end = by (drop k v) (drop k w) (length-drop k v) (length-drop k w) where
    by : (x y : Word) → length x ≡ length v - k → length y ≡ length w - k → word_less x y ≡ nat_lt (length v) (length w)
    by [] [] long_x long_y = grind (arith, nat_tests)
    by [] (d ∷ y) long_x long_y = grind (arith, nat_tests)
    by (c ∷ x) [] long_x long_y = grind (arith, nat_tests)
    by (c ∷ x) (d ∷ y) long_x long_y = absurd (omega arith)
