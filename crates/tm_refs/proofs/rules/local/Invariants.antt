use Rattle.std.proofs.Common.{take}
use Rattle.std.specs.List.{All}
use Rattle.tm_base.specs.Compatible.{Keeps}
use Rattle.tm_base.specs.Worlds.{tables_of}
use Rattle.tm_refs.proofs.rules.local.Given as goal

-- the rules so far are kept
abbrev pub invariant-loop-rule : goal.invariant-loop-rule
invariant-loop-rule l = All (Keeps (tables_of l.fn.world) l.fn.assume l.source l.target) (take l.rule-index l.rule-items)
