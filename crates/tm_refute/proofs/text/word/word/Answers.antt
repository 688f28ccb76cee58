use Rattle.std.proofs.Common.{◌≡◌, ℕ, ◌-◌, length, take, drop, List, Err, ◌∙◌, ap, sym, subst, rules, nat_eq}
use Rattle.std.specs.Prelude.{codes}
use Rattle.std.specs.Cmp.Lexicographic.{pointwise}
use Rattle.tm_base.specs.Cells.{Word}
use Rattle.tm_refute.specs.Runs.{Reads, run_cells}
use Rattle.tm_refute.specs.WordForms.{IsWordText}
use Rattle.tm_refute.proofs.reading.LineLemmas.{not-text}
use Rattle.tm_refute.proofs.reading.WordLemmas.{go-on, last, no-run, none-left, run-stops, spaced, too-many}
use Rattle.tm_refute.proofs.text.word.word.Goals as goal

pub returns-in_default : goal.returns-in_default
returns-in_default c =
    no-run c.args.pointer c.args.text.now c.loop-run.word c.loop-run.line.rest.now c.until.result.now c.until.new.self.rest.now c.loop-run.invariant c.until.ensures
    (not-text c.args.text.now (codes "empty") c.eq.result c.if-eq.false (c.eq.ensures ∙ ap (λ (xs : List ℕ). pointwise nat_eq c.args.text.now xs) c.as_slice.ensures)) c.in_default.ensures

pub returns-in_err-add_to : goal.returns-in_err-add_to
returns-in_err-add_to c =
    let e : c.from_residual.result ≡ Err c.in_err-add_to.field-0.0 = search rules in
    subst (Reads {V = Word} (IsWordText c.args.pointer c.args.text.now)) (sym e)
    (run-stops c.args.pointer c.args.text.now (run_cells c.args.pointer c.in-Some.run') c.loop-run.word c.add_to.new.word c.in_err-add_to.field-0.0
    (too-many c.args.pointer c.args.text.now c.loop-run.word c.loop-run.line.rest.now c.until.result.now c.until.new.self.rest.now c.loop-run.invariant c.until.ensures
    (not-text c.args.text.now (codes "empty") c.eq.result c.if-eq.false (c.eq.ensures ∙ ap (λ (xs : List ℕ). pointwise nat_eq c.args.text.now xs) c.as_slice.ensures))
    c.in-Some.run' c.in-Some.ensures)
    c.in_err-add_to.ensures)

pub returns-in-empty : goal.returns-in-empty
returns-in-empty c =
    last c.args.pointer c.args.text.now c.loop-run.word c.loop-run.line.rest.now c.until.result.now c.until.new.self.rest.now c.loop-run.invariant c.until.ensures
    (not-text c.args.text.now (codes "empty") c.eq.result c.if-eq.false (c.eq.ensures ∙ ap (λ (xs : List ℕ). pointwise nat_eq c.args.text.now xs) c.as_slice.ensures))
    c.in-Some.run' c.in-Some.ensures c.add_to.new.word c.in_ok-add_to.ensures.0 c.in_ok-add_to.ensures.1 (none-left c.until.new.self.rest.now c.in-empty.len_below)

pub loop-run-preserved : goal.loop-run-preserved
loop-run-preserved c =
    let after : List ℕ = c.until.new.self.rest.now in
    go-on c.args.pointer c.args.text.now c.loop-run.word c.loop-run.line.rest.now c.until.result.now after c.loop-run.invariant c.until.ensures
    (not-text c.args.text.now (codes "empty") c.eq.result c.if-eq.false (c.eq.ensures ∙ ap (λ (xs : List ℕ). pointwise nat_eq c.args.text.now xs) c.as_slice.ensures))
    c.in-Some.run' c.in-Some.ensures c.add_to.new.word c.in_ok-add_to.ensures.0 c.in_ok-add_to.ensures.1
    (take (length after - 1) (drop 1 after)) (spaced after c.until.ensures.stops c.in-len1-up.len_at_least)
