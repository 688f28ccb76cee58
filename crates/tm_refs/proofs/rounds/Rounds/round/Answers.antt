use Rattle.std.proofs.Common.{◌∙◌, refl, sym, subst, get_or, arith}
use Rattle.tm_base.specs.Worlds.{tables_of}
use Rattle.tm_refs.specs.Looks.{pair_of}
use Rattle.tm_refs.specs.Rounds.{AreLost, IsLook, IsTable}
use Rattle.tm_refs.proofs.NextLemmas.{none-lost, nothing-passed, passed-all, passed-more, round-done, settled-next}
use Rattle.tm_refs.proofs.rounds.Rounds.round.Goals as goal

pub loop-pair-init : goal.loop-pair-init
loop-pair-init g c =
    let tables = tables_of c.args.self.now.world.now in
    let assume = c.args.self.now.assume in
    let n = c.args.table.now.depth in
    let rows = c.args.table.now.rows.items in
    record {
      depth = refl;
      table = c.requires.table;
      settled = settled-next tables assume n rows c.requires.settled;
      losses = subst (λ ps. AreLost tables assume rows rows ps) (sym c.new-lost.ensures.items) (none-lost tables assume rows);
      passed = nothing-passed tables assume n rows;
      looks = omega arith;
    }

pub look-requires-clause-table : goal.look-requires-clause-table
look-requires-clause-table g c =
    subst (λ n. IsTable (tables_of c.args.self.now.world.now) c.args.self.now.assume n c.loop-pair.table.rows.items) (sym c.loop-pair.invariant.depth) c.loop-pair.invariant.table

pub loop-pair-preserved : goal.loop-pair-preserved
loop-pair-preserved g c =
    let tables = tables_of c.args.self.now.world.now in
    let assume = c.args.self.now.assume in
    let n = c.args.table.now.depth in
    let inv = c.loop-pair.invariant in
    let did = c.in_ok-look.ensures in
    let look =
    subst (λ m. IsLook tables assume m c.loop-pair.table.rows.items c.look.new.table.rows.items (get_or c.args.asked.now c.loop-pair.pair-index (pair_of 0 0)) c.loop-pair.lost.items c.look.new.lost.items)
    inv.depth did.look
    in
    record {
      depth = did.depth ∙ inv.depth;
      table = look.table;
      settled = look.settled;
      losses = look.losses c.args.table.now.rows.items inv.losses;
      passed =
          passed-more tables assume n c.loop-pair.table.rows.items c.look.new.table.rows.items c.args.asked.now c.loop-pair.pair-index (pair_of 0 0) c.loop-pair.lost.items c.look.new.lost.items
          c.loop-pair-test.true look inv.passed;
      looks = omega arith;
    }

pub returns-clause-round : goal.returns-clause-round
returns-clause-round g c =
    let tables = tables_of c.args.self.now.world.now in
    let inv = c.loop-pair.invariant in
    round-done tables c.args.self.now.assume c.args.table.now.depth c.args.table.now.rows.items c.loop-pair.table.rows.items c.args.asked.now c.loop-pair.lost.items c.requires.enough
    inv.table inv.settled inv.losses
    (passed-all tables c.args.self.now.assume c.args.table.now.depth c.loop-pair.table.rows.items c.args.asked.now c.loop-pair.pair-index c.loop-pair-test.false inv.passed)
