use Rattle.std.proofs.Common.{◌≡◌, ◌++◌, drop}
use Rattle.tm_run.specs.Asking.{own_questions}
use Rattle.tm_run.proofs.examining.asking.own_questions.Given as goal

abbrev pub invariant-loop-number : goal.invariant-loop-number
invariant-loop-number l = l.asks ++ own_questions l.number (drop l.number l.decls) ≡ own_questions 0 l.decls
