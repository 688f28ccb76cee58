use Rattle.std.proofs.Common.{◌≡◌, ◌∙◌, sym, arith, rules}
use Rattle.tm_walk.proofs.GroupLemmas.{target_more, target_first, one_target}
use Rattle.tm_walk.proofs.group.group_length.Goals as goal

pub loop-end-init : goal.loop-end-init
loop-end-init c = record {
  some = omega arith;
  most = (let r = c.requires in omega arith);
  one = λ o m. target_first c.args.obligations.now c.index-obligations-0.result c.requires o m ∙ sym c.as_slice-target.ensures.states;
}

pub loop-end-preserved : goal.loop-end-preserved
loop-end-preserved c =
    let same : c.as_slice.result.now ≡ c.as_slice-target.result.now = search rules in
    record {
      some = omega arith;
      most = (let t = c.loop-end-test.true in omega arith);
      one = target_more c.args.obligations.now c.as_slice-target.result.now c.loop-end.end c.index-obligations-end.result c.loop-end-test.true (sym c.as_slice.ensures.states ∙ same) c.loop-end.invariant.one;
    }

pub returns-else-eq-clause-one : goal.returns-else-eq-clause-one
returns-else-eq-clause-one c = one_target _ c.as_slice-target.result.now c.loop-end.invariant.one

pub returns-after-loop-end-clause-one : goal.returns-after-loop-end-clause-one
returns-after-loop-end-clause-one c = one_target _ c.as_slice-target.result.now c.loop-end.invariant.one
