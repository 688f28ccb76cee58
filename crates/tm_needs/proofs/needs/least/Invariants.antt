use Rattle.std.proofs.Common.{◌≡◌}
use Rattle.tm_needs.proofs.LeastLemmas.{Found}
use Rattle.tm_needs.proofs.needs.least.Given as goal

-- the least sets with a lesser number are found, and the question is still that of the two types
abbrev pub invariant-loop-number : goal.invariant-loop-number
invariant-loop-number g l = record {
  found : Found (g.J.AskYes.told l.fn.judge) l.fn.src l.fn.dst l.number l.sets;
  source : l.ask.src ≡ l.fn.src;
  target : l.ask.dst ≡ l.fn.dst;
  world : g.J.AskYes.told l.judge ≡ g.J.AskYes.told l.fn.judge;
}
