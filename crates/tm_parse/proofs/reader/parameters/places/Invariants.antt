use Rattle.std.proofs.Common.{◌≡◌, ◌++◌, drop}
use Rattle.tm_parse.specs.Types.{places as places_of}
use Rattle.tm_parse.proofs.reader.parameters.places.Given as goal

abbrev pub invariant-loop-terminal : goal.invariant-loop-terminal
invariant-loop-terminal l = l.found ++ places_of (drop l.terminal-index l.terminals) ≡ places_of l.fn.terminals
