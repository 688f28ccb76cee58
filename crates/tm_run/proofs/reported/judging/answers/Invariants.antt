use Rattle.std.proofs.Common.{◌≡◌, take}
use Rattle.tm_base.specs.Worlds.{tables_of}
use Rattle.tm_run.specs.Answers.{AreAnswered}
use Rattle.tm_run.proofs.reported.judging.answers.Given as goal

-- the first questions are answered, by the court of their world
abbrev pub invariant-loop-ask : goal.invariant-loop-ask
invariant-loop-ask g l = (l.court ≡ tables_of l.world) × AreAnswered l.world (take l.ask-index l.ask-items) l.answers.items
