use Rattle.std.proofs.Common.{take}
use Rattle.std.specs.List.{AllZip}
use Rattle.tm_ground.specs.Rows.{IsAsk}
use Rattle.tm_ground.specs.Sets.{closed_types}
use Rattle.tm_ground.proofs.rows.questions.Given as goal

-- the questions made so far are the first ones
abbrev pub invariant-loop-ask : goal.invariant-loop-ask
invariant-loop-ask l = AllZip (IsAsk (closed_types l.found.named) (closed_types l.found.refs)) (take l.ask-index l.resolved.asks) l.all
