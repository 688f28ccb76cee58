use Rattle.std.proofs.Common.{◌≡◌, true, take}
use Rattle.std.specs.List.{list_all}
use Rattle.tm_refute.specs.Taken.{but}
use Rattle.tm_refute.proofs.text.reader.length_until.Given as goal

abbrev pub invariant-loop-byte : goal.invariant-loop-byte
invariant-loop-byte l = (l.count ≡ l.byte-index) × (list_all (but l.end) (take l.byte-index l.bytes) ≡ true)
