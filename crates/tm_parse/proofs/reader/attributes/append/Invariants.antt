use Rattle.std.proofs.Common.{◌≡◌, ◌++◌, drop}
use Rattle.tm_parse.proofs.reader.attributes.append.Given as goal

abbrev pub invariant-loop-item : goal.invariant-loop-item
invariant-loop-item l = l.found ++ drop l.item-index l.items ≡ l.fn.found ++ l.fn.items
