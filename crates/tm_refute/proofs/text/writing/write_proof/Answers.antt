use Rattle.std.proofs.Common.{ℕ, List, ◌++◌, ◌∙◌, ap, sym, append_assoc, string_bytes}
use Rattle.std.specs.Prelude.{codes}
use Rattle.std.proofs.lemmas.Result.{on_ok_weaker}
use Rattle.tm_refute.specs.Written.{piece_text, proof_text}
use Rattle.tm_refute.specs.declared.refutation.Proof.{Proof}
use Rattle.tm_refute.proofs.text.writing.write_proof.Goals as goal

pub returns-in_ok-push_str-in-Reverse-clause-text :
    goal.returns-in_ok-push_str-in-Reverse-clause-text
returns-in_ok-push_str-in-Reverse-clause-text c =
    let old : List ℕ = string_bytes c.args.text.now in
    let piece : List ℕ = piece_text c.in-Reverse.piece in
    on_ok_weaker c.write_piece-in-Reverse.result
    (λ e. e ∙ ap (λ (text : List ℕ). text ++ piece) c.in_ok-push_str-in-Reverse.ensures.bytes ∙ append_assoc old (codes ", reverse at ") piece ∙ ap (λ (p : Proof). old ++ proof_text p) (sym c.in-Reverse.is))
    c.write_piece-in-Reverse.ensures.text
