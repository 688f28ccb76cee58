use Rattle.std.proofs.Common.{◌≡◌, ◌++◌, drop}
use Rattle.tm_parse.specs.Definitions.{placed_at}
use Rattle.tm_parse.proofs.reader.attributes.placed.Given as goal

abbrev pub invariant-loop-item : goal.invariant-loop-item
invariant-loop-item l = l.found ++ placed_at l.token (drop l.item-index l.items) ≡ placed_at l.token l.fn.items
