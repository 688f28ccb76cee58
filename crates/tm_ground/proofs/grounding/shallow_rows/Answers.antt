use Rattle.std.proofs.Common.{subst}
use Rattle.tm_ground.specs.Depths.{TellsDepth}
use Rattle.tm_ground.proofs.finding.CollectedLemmas.{no-more-types, no-more-refs}
use Rattle.tm_ground.proofs.world.RowLemmas.{all-rows}
use Rattle.tm_ground.proofs.grounding.shallow_rows.Goals as goal

pub returns-then-branch-clause-cause : goal.returns-then-branch-clause-cause
returns-then-branch-clause-cause c =
    let deep = c.in_ok-is_too_deep.ensures c.args.resolved.now (all-rows c.requires c.in_ok-rows.ensures) in
    (no-more-types _ _ _ c.requires, c.requires.small, no-more-refs _ _ _ c.requires, subst (TellsDepth c.args.resolved.now) c.if-branch.true deep)

pub returns-clause-shallow : goal.returns-clause-shallow
returns-clause-shallow c =
    subst (TellsDepth c.args.resolved.now) c.if-branch.false (c.in_ok-is_too_deep.ensures c.args.resolved.now (all-rows c.requires c.in_ok-rows.ensures))
