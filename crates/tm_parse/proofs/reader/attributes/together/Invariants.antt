use Rattle.std.proofs.Common.{◌≡◌, ◌++◌, drop}
use Rattle.tm_parse.specs.Definitions.{together as together_of}
use Rattle.tm_parse.proofs.reader.attributes.together.Given as goal

abbrev pub invariant-loop-items : goal.invariant-loop-items
invariant-loop-items l = l.found ++ together_of (drop l.items-index l.lists) ≡ together_of l.fn.lists
