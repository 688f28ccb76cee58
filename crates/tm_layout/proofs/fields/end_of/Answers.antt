use Rattle.std.proofs.Common.{sym, ap, ◌∙◌, arith}
use Rattle.tm_layout.specs.Capped.{capped}
use Rattle.tm_layout.specs.Reckoned.{end_at}
use Rattle.tm_layout.proofs.ReckonLemmas.{end_of-next, end_of-done}
use Rattle.tm_layout.proofs.fields.end_of.Goals as goal

pub loop-field-preserved : goal.loop-field-preserved
loop-field-preserved c = record {
  fits = omega arith;
  same = end_of-next c.args.packed c.args.fields.now c.loop-field.field-index c.loop-field.end c.end_at-end.result _ c.loop-field-test.true
      (c.end_at-end.ensures ∙ ap (λ l. capped (end_at c.args.packed c.loop-field.end l)) c.layout_in.ensures)
      ∙ c.loop-field.invariant.same;
}

pub returns : goal.returns
returns c =
    sym (end_of-done c.args.packed c.args.fields.now c.loop-field.field-index c.loop-field.end c.loop-field-test.false c.loop-field.invariant.fits) ∙ c.loop-field.invariant.same
