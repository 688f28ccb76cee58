use Rattle.std.proofs.Common.{◌≡◌, ◌++◌, drop, map}
use Rattle.std.specs.List.{enumerate_from}
use Rattle.tm_parse.specs.Spelling.{terminal_of, terminals_of}
use Rattle.tm_parse.proofs.classify.terminals.Given as goal

-- the terminals so far, and then those of the tokens that are left
abbrev pub invariant-loop-place : goal.invariant-loop-place
invariant-loop-place l =
    l.terminals.items ++ map (terminal_of l.fn.text) (enumerate_from l.place (drop l.place l.fn.tokens))
    ≡ terminals_of l.fn.text l.fn.tokens
