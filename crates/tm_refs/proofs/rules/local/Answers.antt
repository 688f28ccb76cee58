use Rattle.std.proofs.lemmas.Bool.{both_ways}
use Rattle.tm_base.specs.Worlds.{tables_of}
use Rattle.tm_refs.proofs.PointeeLemmas.{OnRows-gives, OnRows-of, rows-below, pointee-laid_out}
use Rattle.tm_refs.proofs.RuleLemmas.{fault-at, kept-all, kept-more}
use Rattle.tm_refs.proofs.rules.local.Goals as goal

pub row-source-requires : goal.row-source-requires
row-source-requires c = (rows-below _ _ _ _ c.requires.judged).0

pub row-target-requires : goal.row-target-requires
row-target-requires c = (rows-below _ _ _ _ c.requires.judged).1

pub keeps-requires-clause-source : goal.keeps-requires-clause-source
keeps-requires-clause-source c =
    pointee-laid_out c.args.world.now c.args.r c.row-source.result.now c.row-source.ensures
    (OnRows-gives _ _ c.row-source.result.now c.row-target.result.now _ c.row-source.ensures c.row-target.ensures c.requires.judged).source

pub keeps-requires-clause-target : goal.keeps-requires-clause-target
keeps-requires-clause-target c =
    pointee-laid_out c.args.world.now c.args.t c.row-target.result.now c.row-target.ensures
    (OnRows-gives _ _ c.row-source.result.now c.row-target.result.now _ c.row-source.ensures c.row-target.ensures c.requires.judged).target

pub returns-then-not-keeps : goal.returns-then-not-keeps
returns-then-not-keeps c = record {
  answer =
      OnRows-of _ _ c.row-source.result.now c.row-target.result.now _ c.row-source.ensures c.row-target.ensures
      (fault-at (tables_of c.args.world.now) c.args.assume c.row-source.result.now c.row-target.result.now c.loop-rule.rule-index _ c.loop-rule-test.true
      c.loop-rule.invariant (λ kept. both_ways _ c.if-not-keeps.true (c.keeps.ensures.1 kept)));
}

pub loop-rule-preserved : goal.loop-rule-preserved
loop-rule-preserved c =
    kept-more (tables_of c.args.world.now) c.args.assume c.row-source.result.now c.row-target.result.now c.loop-rule.rule-index _ c.loop-rule-test.true
    c.loop-rule.invariant (c.keeps.ensures.0 c.if-not-keeps.false)

pub returns : goal.returns
returns c = record {
  answer =
      OnRows-of _ _ c.row-source.result.now c.row-target.result.now _ c.row-source.ensures c.row-target.ensures
      (kept-all (tables_of c.args.world.now) c.args.assume c.row-source.result.now c.row-target.result.now c.loop-rule.rule-index c.loop-rule-test.false
      c.loop-rule.invariant);
}
