use Rattle.std.proofs.Common.{◌≡◌, ◌+◌, ◌-◌, ap, suc, arith, length}
use Rattle.tm_names.proofs.faults.closure.closure.Goals as goal

pub loop-through-preserved : goal.loop-through-preserved
loop-through-preserved c =
    let size = ap length c.as_slice-through-end.ensures.value in
    let left : length c.args.rows.items - c.loop-through.through ≡ suc (length c.args.rows.items - (c.loop-through.through + 1)) = omega (arith, size, c.loop-through-test.true) in
    let one_more = rw left at c.loop-through.invariant in
    rw c.in_ok-closed.ensures one_more
