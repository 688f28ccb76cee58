use Rattle.std.proofs.Common.{◌≡◌, ℕ, List, Err, sym, ◌∙◌, subst, rules}
use Rattle.tm_refute.specs.Runs.{Reads}
use Rattle.tm_refute.specs.TextForms.{IsProofText}
use Rattle.tm_refute.specs.declared.refutation.Proof.{Proof}
use Rattle.tm_refute.proofs.reading.PieceLemmas.{no-forward, no-proof, no-reverse}
use Rattle.tm_refute.proofs.text.piece_text.proof.Goals as goal

pub returns-in_err-piece : goal.returns-in_err-piece
returns-in_err-piece c =
    let e : c.from_residual.result ≡ Err c.in_err-piece.field-0.0 = search rules in
    subst (Reads {V = Proof} (IsProofText c.args.pointer c.args.depth c.args.text.now)) (sym e)
    (no-forward c.args.pointer c.args.depth c.args.text.now c.if-depth-eq0.false c.accept-2.new.self.rest.now c.if-accept.ensures c.in_err-piece.field-0.0 c.in_err-piece.ensures)

pub returns-in_err-piece-2 : goal.returns-in_err-piece-2
returns-in_err-piece-2 c =
    let e : c.from_residual-in_err-piece-2.result ≡ Err c.in_err-piece-2.field-0.0 = search rules in
    subst (Reads {V = Proof} (IsProofText c.args.pointer c.args.depth c.args.text.now)) (sym e)
    (no-reverse c.args.pointer c.args.depth c.args.text.now c.if-depth-eq0.false c.accept-3.new.self.rest.now (sym c.if-accept.ensures.0 ∙ c.if-accept-2.ensures) c.in_err-piece-2.field-0.0 c.in_err-piece-2.ensures)

pub returns : goal.returns
returns c = no-proof c.args.pointer c.args.depth c.args.text.now c.if-depth-eq0.false c.if-accept.ensures.1 (λ (rest : List ℕ) e. c.if-accept-2.ensures.1 rest (c.if-accept.ensures.0 ∙ e))
