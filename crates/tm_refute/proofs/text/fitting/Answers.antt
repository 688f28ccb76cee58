use Rattle.std.proofs.Common.{◌≡◌, Err, sym, subst, rules, arith}
use Rattle.tm_refute.specs.LinesRead.{IsFitting}
use Rattle.tm_refute.specs.Runs.{Reads}
use Rattle.tm_refute.specs.declared.refutation.Entry.{Entry}
use Rattle.tm_refute.proofs.reading.TextLemmas.{no-fitting, over-cells}
use Rattle.tm_refute.proofs.text.fitting.Goals as goal

pub returns-in_err-entry : goal.returns-in_err-entry
returns-in_err-entry c =
    let e : c.from_residual.result ≡ Err c.in_err-entry.field-0.0 = search rules in
    subst (Reads {V = Entry} (IsFitting c.args.pointer c.args.line.now c.args.entries c.args.cells)) (sym e)
    (no-fitting c.args.pointer c.args.line.now c.args.entries c.args.cells c.in_err-entry.field-0.0 c.in_err-entry.ensures)

pub returns-then-saturating_add-gt16777216 : goal.returns-then-saturating_add-gt16777216
returns-then-saturating_add-gt16777216 c =
    over-cells c.args.pointer c.args.line.now c.args.entries c.args.cells c.in_ok-entry.entry c.in_ok-entry.ensures (omega (arith, c.cells.ensures, c.saturating_add.ensures, c.if-saturating_add-gt16777216.true))
