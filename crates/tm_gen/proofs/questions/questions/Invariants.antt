use Rattle.std.proofs.Common.{◌≡◌, string_bytes}
use Rattle.tm_gen.specs.Generated.{question_text}
use Rattle.tm_gen.specs.Written.{numbered}
use Rattle.tm_gen.proofs.questions.questions.Given as goal

-- the questions so far are written, and the state is the one behind them
abbrev pub invariant-loop : goal.invariant-loop
invariant-loop l = record {
  text : string_bytes l.text ≡ (numbered (λ q. question_text) l.counter l.fn.draws).text;
  state : l.draws ≡ (numbered (λ q. question_text) l.counter l.fn.draws).state;
}
