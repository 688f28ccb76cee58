use Rattle.std.proofs.Common.{◌≤◌, ◌<◌, ◌∙◌, refl, subst, length, arith}
use Rattle.std.proofs.lemmas.List.{length-set}
use Rattle.tm_base.specs.Worlds.{tables_of}
use Rattle.tm_refs.proofs.FirstRowLemmas.{blank-more, row-done, row-more, row-start}
use Rattle.tm_refs.proofs.first.first_row.Goals as goal

pub loop-target-init : goal.loop-target-init
loop-target-init c = record {
  length = refl;
  done = λ t below. absurd (omega arith);
  others = λ t past. row-start (tables_of c.args.world.now) c.args.assume t;
}

pub loop-target-preserved : goal.loop-target-preserved
loop-target-preserved c =
    let tables = tables_of c.args.world.now in
    let inv = c.loop-target.invariant in
    let few : length c.args.world.now.refs ≤ 64 = c.args.world.now.few_refs in
    let inside : c.loop-target.target < length c.loop-target.row = omega (arith, c.len-target-end.ensures) in
    record {
      length = length-set c.loop-target.row c.loop-target.target _ ∙ inv.length;
      done = row-more tables c.args.assume c.args.source.0 c.loop-target.target c.loop-target.row c.first_standing.result inside c.first_standing.ensures inv.done;
      others = blank-more tables c.args.assume c.loop-target.target c.loop-target.row c.first_standing.result inv.others;
    }

pub returns : goal.returns
returns c =
    row-done (tables_of c.args.world.now) c.args.assume c.args.source.0 c.loop-target.target c.loop-target.row
    (subst (λ n. n ≤ c.loop-target.target) c.len-target-end.ensures c.loop-target-test.false) c.loop-target.invariant.done c.loop-target.invariant.others
