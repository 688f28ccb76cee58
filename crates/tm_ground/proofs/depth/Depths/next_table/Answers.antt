use Rattle.std.proofs.Common.{◌∙◌, arith, ap}
use Rattle.tm_ground.specs.Depths.{next_flag}
use Rattle.tm_ground.proofs.sizes.DepthLemmas.{first-none, first-more, first-all}
use Rattle.tm_ground.proofs.depth.Depths.next_table.Goals as goal

pub loop-row-init : goal.loop-row-init
loop-row-init c = first-none c.args.named.now c.args.number c.args.self.now.tables c.requires _ c.new-table.ensures

pub loop-row-preserved : goal.loop-row-preserved
loop-row-preserved c =
    first-more c.args.named.now c.args.number c.args.self.now.tables c.requires c.loop-row.row-index c.loop-row.table _ c.row-item.result _ c.loop-row-test.true c.row-item.is c.loop-row.invariant
    (c.next_flag-flag.ensures ∙ ap (λ k. next_flag c.args.self.now.tables c.args.number k c.row-item.result) (c.len.ensures ∙ c.loop-row.invariant.long)) c.in_ok-add.ensures.added

pub returns : goal.returns
returns c = first-all c.args.named.now c.args.number c.args.self.now.tables c.requires c.loop-row.row-index _ (omega (arith, c.loop-row-test.false)) c.loop-row.invariant
