use Rattle.std.proofs.Common.{◌≡◌, take}
use Rattle.std.specs.List.{AllZip}
use Rattle.tm_base.specs.Worlds.{tables_of}
use Rattle.tm_run.specs.Needs.{IsNeed}
use Rattle.tm_run.proofs.reported.needing.needs.Given as goal

-- it is known what the first questions need, by the court of their world
abbrev pub invariant-loop-ask : goal.invariant-loop-ask
invariant-loop-ask g l = (l.court ≡ tables_of l.world) × AllZip (IsNeed (tables_of l.world)) (take l.ask-index l.ask-items) l.needs.items
