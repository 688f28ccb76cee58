-- Classes of symbols: what two sets of states, of two automata, can be walked by together.
use Rattle.std.specs.Prelude.{◌≡◌, ℕ, zero, suc, Bool, true, false, if◌then◌else◌, ◌||◌, ◌+◌, ◌<◌, ◌≤◌, ◌⊎◌, ◌↔◌, List, [], ◌∷◌, ◌++◌, Contains}
use Rattle.tm_base.specs.declared.cell.Cell.{Cell}
use Rattle.tm_base.specs.declared.cell.Cell.TheVariants as cell
use Rattle.tm_base.specs.Orders.{cell_less}
use Rattle.tm_base.specs.Transmutes.{holds, is_itself}
use Rattle.tm_auto.specs.declared.edge.Edge.{Edge}
use Rattle.tm_auto.specs.declared.edge.Label.{Label}
use Rattle.tm_auto.specs.declared.edge.Label.TheVariants as label
use Rattle.tm_auto.specs.declared.edge.Symbol.{Symbol}
use Rattle.tm_auto.specs.declared.edge.Symbol.TheVariants as symbol
use Rattle.tm_auto.specs.Automata.{Automaton, edges_from}
use Rattle.tm_auto.specs.Labels.{Takes}
use Rattle.tm_auto.specs.Sets.{passes, symbol_of, with_state}

-- the symbol has the cell
abbrev pub HasCell : Symbol → Cell → Type 0
HasCell (symbol.Bytes first last) (cell.Byte b) = (first ≤ b) × (b ≤ last)
HasCell (symbol.Bytes first last) cell.Uninit = ⊥
HasCell (symbol.Bytes first last) (cell.Ptr r k) = ⊥
HasCell symbol.Uninit c = c ≡ cell.Uninit
HasCell (symbol.Ptr r k) c = c ≡ cell.Ptr r k

-- a range of bytes has one
abbrev pub IsFormed : Symbol → Type 0
IsFormed (symbol.Bytes first last) = (first ≤ last) × (last < 256)
IsFormed symbol.Uninit = Unit {0}
IsFormed (symbol.Ptr r k) = Unit {0}

-- each cell of an earlier symbol stands before each of a later one, so they are apart
abbrev pub AreInOrder : List Symbol → Type 0
AreInOrder [] = Unit {0}
AreInOrder (x ∷ xs) = ((y : Symbol) (c d : Cell) → Contains xs y → HasCell x c → HasCell y d → cell_less c d ≡ true) × AreInOrder xs

-- the edge leaves one of the states
abbrev pub LeavesSet : Automaton → List ℕ → Edge → Type 0
LeavesSet auto states e = Contains auto.edges e × Contains states e.from

-- an edge from one of the states takes the cell, where each reference holds itself alone
abbrev pub TakesFrom : Automaton → List ℕ → Cell → Type 0
TakesFrom auto states c = (e : Edge) × LeavesSet auto states e × Takes (holds is_itself) e.label c

-- The symbols are in the order of cells, cover each cell that the source's states can take exactly once,
-- and pass an edge, of either automaton and under every test of references, just as each of their cells.
pub record AreClasses (src : Automaton) (from : List ℕ) (dst : Automaton) (to : List ℕ) (symbols : List Symbol) : Type 0 where
  pub formed : (x : Symbol) → Contains symbols x → IsFormed x
  pub ordered : AreInOrder symbols
  pub covers : (c : Cell) → TakesFrom src from c ↔ ((x : Symbol) × Contains symbols x × HasCell x c)
  pub alike : (A : ℕ → ℕ → Bool) (x : Symbol) (c : Cell) (e : Edge) → Contains symbols x → HasCell x c → LeavesSet src from e ⊎ LeavesSet dst to e → passes A e.label x ≡ passes A e.label (symbol_of c)

-- the label treats all bytes from a on and below e alike
abbrev pub IsUncut : Label → ℕ → ℕ → Type 0
IsUncut (label.Bytes low high) a e = (a < low → e ≤ low) × (a < high + 1 → e ≤ high + 1)
IsUncut label.Free a e = Unit {0}
IsUncut (label.Leaf t k) a e = Unit {0}

abbrev pub AreUncut : List Label → ℕ → ℕ → Type 0
AreUncut labels a e = (l : Label) → Contains labels l → IsUncut l a e

-- one of the labels passes the symbol, where each reference holds itself alone
abbrev pub passes_some : List Label → Symbol → Bool
passes_some [] x = false
passes_some (l ∷ ls) x = passes is_itself l x || passes_some ls x

-- the labels of some edges, and of those that leave some states
abbrev pub labels_in : List Edge → List Label
labels_in [] = []
labels_in (e ∷ es) = e.label ∷ labels_in es

abbrev pub labels_from : List Edge → List ℕ → List Label
labels_from es [] = []
labels_from es (s ∷ ss) = labels_in (edges_from s es) ++ labels_from es ss

-- a range of bytes below `end` that no label cuts
pub record IsRange (src dst : List Label) (end : ℕ) (x : Symbol) : Type 0 where
  pub first : ℕ
  pub last : ℕ
  pub is : x ≡ symbol.Bytes first last
  pub formed : first ≤ last
  pub below : last < end
  pub source : AreUncut src first (last + 1)
  pub target : AreUncut dst first (last + 1)

-- the classes of the bytes below `end`
pub record AreRanges (src dst : List Label) (end : ℕ) (symbols : List Symbol) : Type 0 where
  pub each : (x : Symbol) → Contains symbols x → IsRange src dst end x
  pub ordered : AreInOrder symbols
  pub covers : (b : ℕ) → b < end → (passes_some src (symbol.Bytes b b) ≡ true) ↔ ((x : Symbol) × Contains symbols x × HasCell x (cell.Byte b))

-- the uninitialised byte, where some label takes it
abbrev pub uninit_of : List Label → List Symbol
uninit_of labels = if passes_some labels symbol.Uninit then symbol.Uninit ∷ [] else []

-- the bytes of a reference below a place that some label takes
abbrev pub places_of : List Label → ℕ → ℕ → List Symbol
places_of labels id zero = []
places_of labels id (suc k) = places_of labels id k ++ (if passes_some labels (symbol.Ptr (record { 0 = id }) k) then symbol.Ptr (record { 0 = id }) k ∷ [] else [])

-- those of each of these references, of eight places at most
abbrev pub references_of : List Label → List ℕ → List Symbol
references_of labels [] = []
references_of labels (id ∷ ids) = places_of labels id 8 ++ references_of labels ids

-- the set with the number of each reference that a label has a byte of
abbrev pub with_ids : List Label → List ℕ → List ℕ
with_ids [] ids = ids
with_ids (label.Bytes low high ∷ ls) ids = with_ids ls ids
with_ids (label.Free ∷ ls) ids = with_ids ls ids
with_ids (label.Leaf t k ∷ ls) ids = with_ids ls (with_state t.0 ids)
