use Rattle.std.proofs.Common.{◌≡◌, string_bytes}
use Rattle.tm_gen.specs.Generated.{definition_text}
use Rattle.tm_gen.specs.Written.{numbered}
use Rattle.tm_gen.proofs.definitions.definitions.Given as goal

-- the definitions so far are written, and the state is the one behind them
abbrev pub invariant-loop-number : goal.invariant-loop-number
invariant-loop-number l = record {
  text : string_bytes l.text ≡ (numbered definition_text l.number l.fn.draws).text;
  state : l.draws ≡ (numbered definition_text l.number l.fn.draws).state;
}
