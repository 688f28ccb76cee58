use Rattle.std.proofs.Common.{arith, sym, ◌∙◌}
use Rattle.tm_walk.proofs.LiveLemmas.{live_turn, live_stop}
use Rattle.tm_walk.proofs.completion.live_length.Goals as goal

pub returns-then-not-is_live : goal.returns-then-not-is_live
returns-then-not-is_live g c =
    let s = live_stop (g.M.RefTest.test c.args.refs.now) c.args.dst.now c.args.cells.now c.loop-cell.cell-index _ c.loop-cell-test.true _ _ _ c.of.ensures c.in_ok-set-2.ensures.step (sym c.is_live.ensures ∙ c.if-not-is_live.true) in
    let i = c.loop-cell.invariant.same in
    omega arith

pub loop-cell-preserved : goal.loop-cell-preserved
loop-cell-preserved g c =
    let s = live_turn (g.M.RefTest.test c.args.refs.now) c.args.dst.now c.args.cells.now c.loop-cell.cell-index _ c.loop-cell-test.true _ _ _ c.of.ensures c.in_ok-set-2.ensures.step (sym c.is_live.ensures ∙ c.if-not-is_live.false) in
    record {
      count = let i = c.loop-cell.invariant.count in omega arith;
      states = c.in_ok-set-2.ensures.states;
      same = let i = c.loop-cell.invariant.same in omega arith;
    }
