-- Sets of states, as rising lists, and what a step and a list of cells lead to.
use Rattle.std.specs.Prelude.{ℕ, Bool, true, false, if◌then◌else◌, ◌&&◌, ◌||◌, ◌==◌, nat_lt, nat_le, List, [], ◌∷◌}
use Rattle.tm_base.specs.declared.cell.Cell.{Cell}
use Rattle.tm_base.specs.declared.cell.Cell.TheVariants.{Byte, Uninit, Ptr}
use Rattle.tm_base.specs.Cells.{Word}
use Rattle.tm_auto.specs.declared.edge.Edge.{Edge}
use Rattle.tm_auto.specs.declared.edge.Label.{Label}
use Rattle.tm_auto.specs.declared.edge.Label.TheVariants as label
use Rattle.tm_auto.specs.declared.edge.Symbol.{Symbol}
use Rattle.tm_auto.specs.declared.edge.Symbol.TheVariants as symbol

-- the set has the state
abbrev pub has_state : List ℕ → ℕ → Bool
has_state [] s = false
has_state (x ∷ xs) s = (x == s) || has_state xs s

-- the set with the state, in its place
abbrev pub with_state : ℕ → List ℕ → List ℕ
with_state s [] = s ∷ []
with_state s (x ∷ xs) =
    if nat_lt s x then s ∷ x ∷ xs
    else if x == s then x ∷ xs
    else x ∷ with_state s xs

-- What a label passes: a range of bytes that lies within its own whole, or for a free cell any, or the
-- place of a reference that may be taken as its own.
abbrev pub passes : (ℕ → ℕ → Bool) → Label → Symbol → Bool
passes A (label.Bytes low high) (symbol.Bytes a b) = nat_le low a && nat_le b high
passes A (label.Bytes low high) symbol.Uninit = false
passes A (label.Bytes low high) (symbol.Ptr r k) = false
passes A label.Free (symbol.Bytes a b) = nat_lt b 256
passes A label.Free symbol.Uninit = true
passes A label.Free (symbol.Ptr r k) = false
passes A (label.Leaf t j) (symbol.Bytes a b) = false
passes A (label.Leaf t j) symbol.Uninit = false
passes A (label.Leaf t j) (symbol.Ptr r k) = (k == j) && A r.0 t.0

-- the states to which an edge leads that leaves one of these states and passes the symbol
abbrev pub next : (ℕ → ℕ → Bool) → List Edge → List ℕ → Symbol → List ℕ
next A [] from symbol = []
next A (e ∷ es) from symbol =
    if has_state from e.from && passes A e.label symbol
    then with_state e.to (next A es from symbol)
    else next A es from symbol

-- the set with the end of each of these edges that passes the symbol
abbrev pub with_ends : (ℕ → ℕ → Bool) → Symbol → List Edge → List ℕ → List ℕ
with_ends A symbol [] xs = xs
with_ends A symbol (e ∷ es) xs = with_ends A symbol es (if passes A e.label symbol then with_state e.to xs else xs)

abbrev pub symbol_of : Cell → Symbol
symbol_of (Byte b) = symbol.Bytes b b
symbol_of Uninit = symbol.Uninit
symbol_of (Ptr r k) = symbol.Ptr r k

-- the states that a list of cells reaches from these
abbrev pub reached_from : (ℕ → ℕ → Bool) → List Edge → List ℕ → Word → List ℕ
reached_from A es states [] = states
reached_from A es states (c ∷ w) = reached_from A es (next A es states (symbol_of c)) w
