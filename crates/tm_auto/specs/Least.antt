-- The least cell by which a word goes on.
use Rattle.std.specs.Prelude.{◌≡◌, ℕ, false, List}
use Rattle.tm_base.specs.declared.cell.Cell.{Cell}
use Rattle.tm_base.specs.declared.cell.Cell.TheVariants as cell
use Rattle.tm_base.specs.Orders.{cell_less}
use Rattle.tm_auto.specs.declared.edge.Label.{Label}
use Rattle.tm_auto.specs.declared.edge.Label.TheVariants as label
use Rattle.tm_auto.specs.declared.edge.Symbol.{Symbol}
use Rattle.tm_auto.specs.declared.edge.Symbol.TheVariants as symbol
use Rattle.tm_auto.specs.Automata.{Automaton}
use Rattle.tm_auto.specs.Classes.{TakesFrom}

-- the least cell of a symbol
abbrev pub first_cell : Symbol → Cell
first_cell (symbol.Bytes first last) = cell.Byte first
first_cell symbol.Uninit = cell.Uninit
first_cell (symbol.Ptr r k) = cell.Ptr r k

-- the least cell that a label takes, where each reference holds itself alone
abbrev pub least_of : Label → Cell
least_of (label.Bytes low high) = cell.Byte low
least_of label.Free = cell.Byte 0
least_of (label.Leaf t k) = cell.Ptr t k

-- the least cell that an edge from the states takes, as a source's does
pub record IsLeastCell (auto : Automaton) (from : List ℕ) (c : Cell) : Type 0 where
  pub taken : TakesFrom auto from c
  pub least : (d : Cell) → TakesFrom auto from d → cell_less d c ≡ false
