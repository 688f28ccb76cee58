-- Sets that one edge leaves, and pairs of labels that are walked by one symbol.
use Rattle.std.specs.Prelude.{◌≡◌, ℕ, Bool, if◌then◌else◌, ◌⊎◌, ◌↔◌, List, [], ◌∷◌}
use Rattle.tm_base.specs.declared.cell.Cell.{Cell}
use Rattle.tm_base.specs.Transmutes.{holds, is_itself}
use Rattle.tm_auto.specs.declared.edge.Edge.{Edge}
use Rattle.tm_auto.specs.declared.edge.Label.{Label}
use Rattle.tm_auto.specs.declared.edge.Symbol.{Symbol}
use Rattle.tm_auto.specs.Automata.{Automaton}
use Rattle.tm_auto.specs.Classes.{HasCell, IsFormed, LeavesSet}
use Rattle.tm_auto.specs.Labels.{Takes}
use Rattle.tm_auto.specs.Sets.{passes, symbol_of}

-- just this edge leaves one of the states
abbrev pub IsOnlyEdge : Automaton → List ℕ → Edge → Type 0
IsOnlyEdge auto states edge = (e : Edge) → LeavesSet auto states e ↔ (e ≡ edge)

-- The symbol has just the cells that the source's label takes, and passes both labels, under every test of
-- references, as each of its cells.
pub record IsOnlyClass (source target : Label) (x : Symbol) : Type 0 where
  pub formed : IsFormed x
  pub takes : (c : Cell) → Takes (holds is_itself) source c ↔ HasCell x c
  pub alike : (A : ℕ → ℕ → Bool) (c : Cell) (l : Label) → HasCell x c → (l ≡ source) ⊎ (l ≡ target) → passes A l x ≡ passes A l (symbol_of c)

-- the end of the edge, where it passes the symbol
abbrev pub ends_of : (ℕ → ℕ → Bool) → Edge → Symbol → List ℕ
ends_of A edge symbol = if passes A edge.label symbol then edge.to ∷ [] else []
