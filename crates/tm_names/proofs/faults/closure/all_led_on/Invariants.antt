use Rattle.std.proofs.Common.{◌≡◌, map}
use Rattle.tm_names.specs.Closures.{next_row}
use Rattle.tm_names.specs.Held.{bit_at}
use Rattle.tm_names.proofs.faults.closure.all_led_on.Given as goal

abbrev pub invariant-loop-row : goal.invariant-loop-row
invariant-loop-row l = l.next.items ≡ map (λ row. next_row (bit_at row l.through) row l.other) l.yielded
