use Rattle.std.proofs.Common.{◌≡◌, ℕ, ◌+◌, length}
use Rattle.tm_refute.specs.TextForms.{cells_of}
use Rattle.tm_refute.proofs.reading.TextLemmas.{Begun}
use Rattle.tm_refute.proofs.text.lines.Given as goal

abbrev pub invariant-loop-line : goal.invariant-loop-line
invariant-loop-line l = (n : ℕ) × (l.at ≡ n + 1) × Begun l.pointer n l.fn.bytes l.text.rest.now l.number l.x × (l.cells ≡ cells_of l.x)

abbrev pub decreases-loop-line : goal.decreases-loop-line
decreases-loop-line l = length l.text.rest.now
