-- How words go on from some states of an automaton.
use Rattle.std.specs.Prelude.{ℕ, ◌≤◌, List, Option, Some, None, IsTrue, unwrap_or, Contains}
use Rattle.tm_base.specs.declared.answer.LocalRule.{LocalRule}
use Rattle.tm_base.specs.declared.answer.RefFault.{RefFault}
use Rattle.tm_base.specs.declared.answer.Rule.{Rule}
use Rattle.tm_base.specs.declared.answer.Rule.TheVariants.{ByteValue, BytesForReference, ReferenceForBytes, RefPointee}
use Rattle.tm_base.specs.declared.cell.RefId.{RefId}
use Rattle.tm_base.specs.Rules.{rule_of}
use Rattle.tm_auto.specs.declared.edge.Edge.{Edge}
use Rattle.tm_auto.specs.Automata.{Automaton, BeginsReference}
use Rattle.tm_refs.specs.declared.compat.Compat.{Compat}
use Rattle.tm_refs.specs.Solved.{depth_in, why_in}
use Rattle.tm_witness.specs.Search.{takes_bytes}

-- an edge that takes an initialised byte leaves one of the states
abbrev pub GoesOnByByte : Automaton → List ℕ → Type 0
GoesOnByByte auto states = (e : Edge) × Contains auto.edges e × Contains states e.from × IsTrue (takes_bytes e.label)

-- of the references that may begin at one of the states the one with the least number
abbrev pub IsLeastOpen : Automaton → List ℕ → Option RefId → Type 0
IsLeastOpen auto states None = (t : RefId) → ¬ BeginsReference auto states t
IsLeastOpen auto states (Some least) = BeginsReference auto states least × ((t : RefId) → BeginsReference auto states t → least.0 ≤ t.0)

-- The rule of a byte that goes on with none of the words from some states.
abbrev pub IsByteRule : Automaton → List ℕ → Rule → Type 0
IsByteRule auto states ByteValue = GoesOnByByte auto states
IsByteRule auto states BytesForReference = ¬ GoesOnByByte auto states
IsByteRule auto states _ = ⊥

-- the rule where a local rule is broken, and where none is
abbrev pub rule_by : Option LocalRule → Rule
rule_by None = RefPointee
rule_by (Some broken) = rule_of broken

-- the rule of a reference that isn't taken as another, and the depth, by the table
abbrev pub table_rule : Compat → RefId → RefId → Rule
table_rule compat r t = rule_by (why_in compat r.0 t.0)

abbrev pub table_fault : Compat → RefId → RefId → RefFault
table_fault compat r t = record { source = r; target = t; depth = unwrap_or (depth_in compat r.0 t.0) 0 }

-- what is answered of a reference behind which none of the words from some states goes on, where the least of
-- those that may begin there is known
abbrev pub reference_answer : Compat → RefId → Option RefId → Rule × Option RefFault
reference_answer compat r None = (ReferenceForBytes, None)
reference_answer compat r (Some t) = (table_rule compat r t, Some (table_fault compat r t))
