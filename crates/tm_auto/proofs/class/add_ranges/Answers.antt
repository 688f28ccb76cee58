use Rattle.std.proofs.Common.{arith, sym, ◌∙◌}
use Rattle.tm_auto.proofs.ClassLemmas.{all_less, ranges_add, ranges_skip}
use Rattle.tm_auto.proofs.class.add_ranges.Goals as goal

pub loop-at-preserved-in_ok-add : goal.loop-at-preserved-in_ok-add
loop-at-preserved-in_ok-add c =
    let most = c.uncut_to-end.ensures.most in
    let whole = c.uncut_to.ensures.most in
    let added = ranges_add c.args.src.now c.args.dst.now c.loop-at.at c.uncut_to-end.result c.loop-at.symbols c.loop-at.invariant.ranges c.uncut_to-end.ensures.past (omega arith) (all_less c.args.src.now c.loop-at.at c.uncut_to.result c.uncut_to-end.result most c.uncut_to.ensures.uncut) c.uncut_to-end.ensures.uncut (sym c.passes_any.ensures ∙ c.if-passes_any.true) in
    record { most = omega arith; ranges = rw c.in_ok-add.ensures added }

pub loop-at-preserved : goal.loop-at-preserved
loop-at-preserved c =
    let most = c.uncut_to-end.ensures.most in
    let whole = c.uncut_to.ensures.most in
    record {
      most = omega arith;
      ranges = ranges_skip c.args.src.now c.args.dst.now c.loop-at.at c.uncut_to-end.result c.loop-at.symbols c.loop-at.invariant.ranges c.uncut_to-end.ensures.past (omega arith) (all_less c.args.src.now c.loop-at.at c.uncut_to.result c.uncut_to-end.result most c.uncut_to.ensures.uncut) c.uncut_to-end.ensures.uncut (sym c.passes_any.ensures ∙ c.if-passes_any.false);
    }
