-- Each piece goes on with what is read so far.
use Rattle.std.proofs.Common.{sym, subst, length, rules}
use Rattle.std.specs.Str.{chars}
use Rattle.tm_lex.specs.Tokens.{IsToken}
use Rattle.tm_lex.proofs.LexLemmas.{ReadsTo, reads_nothing, reads_gap, reads_token, reads_all, reads_fault, fronts_within}
use Rattle.tm_lex.proofs.lexing.read.Goals as goal

pub pieces-init : goal.pieces-init
pieces-init c = (
  c.past_mark-rest.utf8,
  subst (λ ts. ReadsTo c.args.text.now ts (chars c.past_mark-rest.result.now)) (sym c.new-tokens.ensures.items)
      (reads_nothing c.args.text.now (chars c.past_mark-rest.result.now) c.utf8.text c.past_mark-rest.ensures),
)

pub returns-in-End-clause-tokens : goal.returns-in-End-clause-tokens
returns-in-End-clause-tokens c = reads_all c.args.text.now (chars c.pieces.rest.now) c.pieces.tokens.items c.pieces.invariant.1 c.in-End.ensures

pub pieces-preserved-in-Gap : goal.pieces-preserved-in-Gap
pieces-preserved-in-Gap c = (
  search rules,
  reads_gap c.args.text.now (chars c.pieces.rest.now) (chars c.in-Gap.after.now) c.pieces.tokens.items c.pieces.invariant.1 c.in-Gap.ensures,
)

pub place-end-requires-clause-within : goal.place-end-requires-clause-within
place-end-requires-clause-within c =
    fronts_within (IsToken c.in-Token.kind) (chars c.pieces.rest.now) (chars c.in-Token.after.now) (length c.args.text.now)
    c.pieces.invariant.1.within c.in-Token.ensures

pub pieces-preserved : goal.pieces-preserved
pieces-preserved c = (
  search rules,
  subst (λ ts. ReadsTo c.args.text.now ts (chars c.in-Token.after.now)) (sym c.in_ok-add-in-Token.ensures.ok)
      (reads_token c.args.text.now (chars c.pieces.rest.now) (chars c.in-Token.after.now) c.pieces.tokens.items c.in-Token.kind
      c.place-start.result c.place-end.result c.pieces.invariant.1 c.in-Token.ensures c.place-start.ensures c.place-end.ensures),
)

pub returns-in-Fault-clause-fault : goal.returns-in-Fault-clause-fault
returns-in-Fault-clause-fault c =
    reads_fault c.args.text.now (chars c.pieces.rest.now) c.pieces.tokens.items c.place.result c.in-Fault.why
    c.pieces.invariant.1 c.place.ensures c.in-Fault.ensures
