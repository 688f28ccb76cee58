-- What is looked for among the edges that leave some states: working definitions.
use Rattle.std.specs.Prelude.{ℕ, zero, Bool, true, false, if◌then◌else◌, nat_lt, List, Option, Some, None, fold}
use Rattle.std.specs.List.{list_any}
use Rattle.tm_base.specs.declared.cell.RefId.{RefId}
use Rattle.tm_auto.specs.declared.edge.Edge.{Edge}
use Rattle.tm_auto.specs.declared.edge.Label.{Label}
use Rattle.tm_auto.specs.declared.edge.Label.TheVariants.{Bytes, Free, Leaf}
use Rattle.tm_auto.specs.Automata.{edges_from}

-- the label takes some initialised byte
abbrev pub takes_bytes : Label → Bool
takes_bytes (Bytes low high) = true
takes_bytes Free = true
takes_bytes (Leaf t k) = false

-- some edge that leaves one of the states does
abbrev pub some_takes_bytes : List Edge → List ℕ → Bool
some_takes_bytes es = list_any (λ s. list_any (λ e. takes_bytes e.label) (edges_from s es))

-- the lesser of a reference and of the one that begins with the label
abbrev pub lesser_open : Option RefId → Label → Option RefId
lesser_open None (Leaf t zero) = Some t
lesser_open (Some u) (Leaf t zero) = if nat_lt t.0 u.0 then Some t else Some u
lesser_open least _ = least

-- the lesser of a reference and the least of those that begin on the edges
abbrev pub least_among : Option RefId → List Edge → Option RefId
least_among least es = fold (λ r e. lesser_open r e.label) least es

-- and on those that leave one of the states
abbrev pub least_from : List Edge → Option RefId → List ℕ → Option RefId
least_from es least ss = fold (λ r s. least_among r (edges_from s es)) least ss
