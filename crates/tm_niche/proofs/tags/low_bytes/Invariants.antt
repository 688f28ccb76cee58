use Rattle.std.proofs.Common.{◌≡◌, ◌++◌, ◌-◌}
use Rattle.tm_niche.specs.Forms.{byte_forms}
use Rattle.tm_niche.proofs.tags.low_bytes.Given as goal

abbrev pub invariant-loop : goal.invariant-loop
invariant-loop l = l.bytes ++ byte_forms l.negative (l.size - l.counter) l.rest ≡ byte_forms l.negative l.size l.number
