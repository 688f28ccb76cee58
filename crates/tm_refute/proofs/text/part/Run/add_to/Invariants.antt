use Rattle.std.proofs.Common.{◌≡◌, ◌++◌}
use Rattle.tm_refute.specs.Runs.{as_part}
use Rattle.tm_refute.specs.WordForms.{part_cells, repeated}
use Rattle.tm_refute.proofs.text.part.Run.add_to.Given as goal

abbrev pub invariant-loop : goal.invariant-loop
invariant-loop l = l.word ≡ l.initial.word ++ repeated l.counter (part_cells l.pointer (as_part l.fn.self.part))
