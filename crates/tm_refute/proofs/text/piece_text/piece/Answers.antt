use Rattle.std.proofs.Common.{◌≡◌, Err, sym, subst, rules}
use Rattle.tm_refute.specs.Runs.{Reads}
use Rattle.tm_refute.specs.TextForms.{IsPieceText}
use Rattle.tm_refute.specs.declared.refutation.Piece.{Piece}
use Rattle.tm_refute.proofs.reading.PieceLemmas.{no-colon, no-word}
use Rattle.tm_refute.proofs.text.piece_text.piece.Goals as goal

pub returns-then-not-accept : goal.returns-then-not-accept
returns-then-not-accept c = no-colon c.args.pointer c.args.text.now c.in-Some.offset c.number.new.self.rest.now c.in-Some.ensures c.if-not-accept.ensures.1

pub returns-in_err-word : goal.returns-in_err-word
returns-in_err-word c =
    let e : c.from_residual.result ≡ Err c.in_err-word.field-0.0 = search rules in
    subst (Reads {V = Piece} (IsPieceText c.args.pointer c.args.text.now)) (sym e)
    (no-word c.args.pointer c.args.text.now c.in-Some.offset c.number.new.self.rest.now c.in-Some.ensures c.accept.new.self.rest.now c.if-not-accept.ensures c.in_err-word.field-0.0 c.in_err-word.ensures)
