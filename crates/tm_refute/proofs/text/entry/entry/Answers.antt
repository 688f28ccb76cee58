use Rattle.std.proofs.Common.{◌≡◌, Err, sym, subst, rules}
use Rattle.tm_refute.specs.Runs.{Reads}
use Rattle.tm_refute.specs.TextForms.{IsEntryText}
use Rattle.tm_refute.specs.declared.refutation.Entry.{Entry}
use Rattle.tm_refute.proofs.reading.PieceLemmas.{no-depth, no-entry, no-source, no-target}
use Rattle.tm_refute.proofs.text.entry.entry.Goals as goal

pub returns-in_default : goal.returns-in_default
returns-in_default c = no-source c.args.pointer c.args.text.now c.in_default.ensures

pub returns-in_default-numbered : goal.returns-in_default-numbered
returns-in_default-numbered c = no-target c.args.pointer c.args.text.now c.in-Some.source c.numbered.new.self.rest.now c.in-Some.ensures c.in_default-numbered.ensures

pub returns-in_default-numbered-2 : goal.returns-in_default-numbered-2
returns-in_default-numbered-2 c =
    no-depth c.args.pointer c.args.text.now c.in-Some.source c.numbered.new.self.rest.now c.in-Some.ensures
    c.in-Some-numbered.target c.numbered-2.new.self.rest.now c.in-Some-numbered.ensures c.in_default-numbered-2.ensures

pub returns-in_err-proof : goal.returns-in_err-proof
returns-in_err-proof c =
    let e : c.from_residual.result ≡ Err c.in_err-proof.field-0.0 = search rules in
    subst (Reads {V = Entry} (IsEntryText c.args.pointer c.args.text.now)) (sym e)
    (no-entry c.args.pointer c.args.text.now c.in-Some.source c.numbered.new.self.rest.now c.in-Some.ensures
    c.in-Some-numbered.target c.numbered-2.new.self.rest.now c.in-Some-numbered.ensures
    c.in-Some-numbered-2.depth c.numbered-3.new.self.rest.now c.in-Some-numbered-2.ensures c.in_err-proof.field-0.0 c.in_err-proof.ensures)
