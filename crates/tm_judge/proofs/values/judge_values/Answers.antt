use Rattle.tm_judge.proofs.values.judge_values.Goals as goal

pub answer-requires-clause-ready : goal.answer-requires-clause-ready
answer-requires-clause-ready g c = record {
  source_over = c.requires.source;
  target_over = c.requires.target;
  judged = c.requires.judged;
  serves = c.requires.serves;
  source = c.in_ok-src.ensures.automaton;
  target = c.in_ok-dst.ensures.automaton;
}
