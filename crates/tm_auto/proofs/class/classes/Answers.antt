use Rattle.std.proofs.Common.{◌∙◌}
use Rattle.tm_auto.proofs.ClassedLemmas.{classed}
use Rattle.tm_auto.proofs.class.classes.Goals as goal

pub returns : goal.returns
returns c =
    let source = c.in_ok-source.ensures in
    let target = c.in_ok-target.ensures in
    classed c.args.src.now c.args.from.now c.args.dst.now c.args.to.now c.law.ensures.automaton _ _ _ _ _ _ _ (c.as_slice.ensures ∙ source) (c.as_slice-2.ensures ∙ target) (c.as_slice-3.ensures ∙ source) (c.as_slice-4.ensures ∙ source) c.in_ok-add_ranges.ensures c.in_ok-add_uninit.ensures c.in_ok-add_references.ensures
