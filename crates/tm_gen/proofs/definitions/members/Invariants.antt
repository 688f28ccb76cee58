use Rattle.std.proofs.Common.{◌≡◌, string_bytes}
use Rattle.tm_gen.specs.Generated.{member_line}
use Rattle.tm_gen.specs.Written.{numbered}
use Rattle.tm_gen.proofs.definitions.members.Given as goal

-- the members so far are written, and the state is the one behind them
abbrev pub invariant-loop-place : goal.invariant-loop-place
invariant-loop-place l = record {
  text : string_bytes l.text ≡ (numbered (member_line l.kind l.definition) l.place l.fn.draws).text;
  state : l.draws ≡ (numbered (member_line l.kind l.definition) l.place l.fn.draws).state;
}
