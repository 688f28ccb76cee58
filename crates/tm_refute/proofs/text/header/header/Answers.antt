use Rattle.std.proofs.Common.{Err, subst}
use Rattle.tm_refute.specs.LinesRead.{IsTop}
use Rattle.tm_refute.specs.Runs.{Reads}
use Rattle.tm_refute.specs.declared.refutation.Piece.{Piece}
use Rattle.tm_refute.specs.declared.stop.Stop.{Stop}
use Rattle.tm_refute.proofs.reading.HeaderLemmas.{no-first, no-question, no-second, no-top, two-led}
use Rattle.tm_refute.proofs.text.header.header.Goals as goal

pub returns-in_default : goal.returns-in_default
returns-in_default c = no-first c.args.pointer c.args.text.now.rest.now c.in_default.ensures

pub returns-in_default-question : goal.returns-in_default-question
returns-in_default-question c =
    no-question c.args.pointer c.args.text.now.rest.now c.in-Some.first.now c.line.new.self.rest.now c.in-Some.ensures.0 c.in-Some.ensures.1 c.in_default-question.ensures

pub returns-in_default-line : goal.returns-in_default-line
returns-in_default-line c =
    no-second c.args.pointer c.args.text.now.rest.now c.in-Some.first.now c.line.new.self.rest.now c.in-Some.ensures.0 c.in-Some.ensures.1
    c.in-Some-question.number c.in-Some-question.ensures c.in_default-line.ensures

pub returns-in-Ok : goal.returns-in-Ok
returns-in-Ok c =
    two-led c.args.pointer c.args.text.now.rest.now c.in-Some.first.now c.line.new.self.rest.now c.in-Some.ensures.0 c.in-Some.ensures.1
    c.in-Some-question.number c.in-Some-question.ensures c.in-Some-line.second.now c.line-2.new.self.rest.now c.in-Some-line.ensures.0 c.in-Some-line.ensures.1 c.in-Ok.top c.in-Ok.ensures

pub returns-in-Err-Form : goal.returns-in-Err-Form
returns-in-Err-Form c =
    no-top c.args.pointer c.args.text.now.rest.now c.in-Some.first.now c.line.new.self.rest.now c.in-Some.ensures.0 c.in-Some.ensures.1
    c.in-Some-question.number c.in-Some-question.ensures c.in-Some-line.second.now c.line-2.new.self.rest.now c.in-Some-line.ensures.0 c.in-Some-line.ensures.1 (subst (λ (s : Stop). Reads {V = Piece} (IsTop c.args.pointer c.in-Some-line.second.now) (Err s)) c.in-Err-Form.field-0-is c.in-Err-Form.ensures)
