use Rattle.std.proofs.Common.{◌≡◌, ℕ, ◌+◌, refl, sym, ◌∙◌, ap, subst, List, [], ◌∷◌, nat_eq, length, length-append, arith}
use Rattle.std.specs.Prelude.{codes}
use Rattle.std.specs.Cmp.Lexicographic.{pointwise}
use Rattle.tm_refute.specs.Runs.{Reads}
use Rattle.tm_refute.specs.LinesRead.{IsFitting}
use Rattle.tm_refute.specs.TextForms.{IsBadLine, IsRefutationText, begun, cells_of, nothing, whole}
use Rattle.tm_refute.specs.declared.refutation.Entry.{Entry}
use Rattle.tm_refute.specs.declared.refutation.Refutation.{Refutation}
use Rattle.tm_refute.specs.declared.stop.Stop.{Stop}
use Rattle.std.proofs.Common.{Err}
use Rattle.tm_refute.proofs.forms.LeadsLemmas.{rest-is}
use Rattle.tm_refute.proofs.reading.LineLemmas.{not-text, same-text}
use Rattle.tm_refute.proofs.reading.TextLemmas.{Begun, cells-more, ended, entered, fits-within, no-line-there, within-fits}
use Rattle.tm_refute.proofs.text.lines.Goals as goal

pub loop-line-init : goal.loop-line-init
loop-line-init c =
    let start : Refutation = record { top = c.in_ok-number.top; entries = [] } in
    subst (λ (es : List Entry). (n : ℕ) × (3 ≡ n + 1) × Begun c.args.pointer n c.args.bytes.now c.header.new.text.rest.now c.in_ok-number.number (record { top = c.in_ok-number.top; entries = es }) × (c.len-cells.result ≡ cells_of (record { top = c.in_ok-number.top; entries = es }))) (sym c.new.ensures)
    (2, refl, c.in_ok-number.ensures, omega (arith, c.len-cells.ensures))

pub overflow_sub-end : goal.overflow_sub-end
overflow_sub-end c =
    let (n, e, leads, cells) = c.loop-line.invariant in
    let (same, less) = rest-is c.args.pointer n nothing (begun c.in_ok-number.number c.loop-line.x) c.args.bytes.now c.loop-line.text.rest.now leads in
    omega (arith, less, ap (length {A = ℕ}) c.in-Some.ensures.0, length-append c.in-Some.line.now (10 ∷ c.line.new.self.rest.now))

pub returns-then-eq : goal.returns-then-eq
returns-then-eq c =
    let (n, e, leads, cells) = c.loop-line.invariant in
    let end = same-text c.in-Some.line.now (codes "end") c.eq.result c.if-eq.true (c.eq.ensures ∙ ap (λ (xs : List ℕ). pointwise nat_eq c.in-Some.line.now xs) c.as_slice.ensures) in
    let is = ended c.args.pointer n c.args.bytes.now c.loop-line.text.rest.now c.in_ok-number.number c.loop-line.x leads c.in-Some.line.now c.line.new.self.rest.now c.in-Some.ensures.0 c.in-Some.ensures.1 end in
    let (same, less) = rest-is c.args.pointer is.0 nothing (whole c.in_ok-number.number c.loop-line.x) c.args.bytes.now c.line.new.self.rest.now is.1 in
    (omega arith, subst (IsRefutationText c.args.pointer c.args.bytes.now c.in_ok-number.number c.loop-line.x) (sym same) is)

pub returns-in-Err-Form : goal.returns-in-Err-Form
returns-in-Err-Form c =
    let (n, e, leads, cells) = c.loop-line.invariant in
    let other = not-text c.in-Some.line.now (codes "end") c.eq.result c.if-eq.false (c.eq.ensures ∙ ap (λ (xs : List ℕ). pointwise nat_eq c.in-Some.line.now xs) c.as_slice.ensures) in
    let none : (entry : Entry) → IsFitting c.args.pointer c.in-Some.line.now c.len.result c.loop-line.cells entry → ⊥ =
    subst (λ (s : Stop). Reads {V = Entry} (IsFitting c.args.pointer c.in-Some.line.now c.len.result c.loop-line.cells) (Err s)) c.in-Err-Form.field-0-is c.in-Err-Form.ensures in
    subst (IsBadLine c.args.pointer c.args.bytes.now) (sym e)
    (no-line-there c.args.pointer n c.args.bytes.now c.loop-line.text.rest.now c.in_ok-number.number c.loop-line.x leads c.in-Some.line.now c.line.new.self.rest.now c.in-Some.ensures.0 c.in-Some.ensures.1 other
    (λ (entry : Entry) is. none entry (within-fits c.args.pointer c.in-Some.line.now c.loop-line.x c.len.result c.loop-line.cells c.len.ensures cells entry is.0 is.1)))

pub overflow_add-at : goal.overflow_add-at
overflow_add-at c =
    let (n, e, leads, cells) = c.loop-line.invariant in
    let (same, less) = rest-is c.args.pointer n nothing (begun c.in_ok-number.number c.loop-line.x) c.args.bytes.now c.loop-line.text.rest.now leads in
    omega (arith, e, less, c.requires.size)

pub loop-line-preserved : goal.loop-line-preserved
loop-line-preserved c =
    let (n, e, leads, cells) = c.loop-line.invariant in
    let entry : Entry = c.in-Ok.entry in
    let within = fits-within c.args.pointer c.in-Some.line.now c.loop-line.x c.len.result c.loop-line.cells c.len.ensures cells entry c.in-Ok.ensures in
    subst (λ (es : List Entry). (k : ℕ) × (c.loop-line.at + 1 ≡ k + 1) × Begun c.args.pointer k c.args.bytes.now c.line.new.self.rest.now c.in_ok-number.number (record { top = c.loop-line.x.top; entries = es }) × (c.loop-line.cells + c.cells-cells.result ≡ cells_of (record { top = c.loop-line.x.top; entries = es }))) (sym c.in_ok-add-in-Ok.ensures.added) (
      n + 1,
      omega (arith, e),
      entered c.args.pointer n c.args.bytes.now c.loop-line.text.rest.now c.in_ok-number.number c.loop-line.x leads c.in-Some.line.now c.line.new.self.rest.now c.in-Some.ensures.0 c.in-Some.ensures.1 entry c.in-Ok.ensures.0 within,
      cells-more c.loop-line.x entry c.loop-line.cells c.cells-cells.result cells c.cells-cells.ensures,
    )
