use Rattle.std.proofs.Common.{◌≤◌, ◌+◌, ◌∙◌, ◌∷◌, [], ap, subst, length, length-append}
use Rattle.tm_base.specs.Worlds.{tables_of}
use Rattle.tm_refs.proofs.FirstRowLemmas.{first-settled, first-table, rows-done}
use Rattle.tm_refs.proofs.FirstRowLemmas.{rows-more}
use Rattle.tm_refs.proofs.first.first_table.Goals as goal

pub loop-source-preserved : goal.loop-source-preserved
loop-source-preserved c =
    let inv = c.loop-source.invariant in
    record {
      count = ap length c.in_ok-push.ensures.items ∙ (length-append c.loop-source.rows.items (c.first_row.result ∷ []) ∙ ap (λ n. n + 1) inv.count);
      done =
          rows-more (tables_of c.args.world.now) c.args.assume c.loop-source.source c.loop-source.rows.items c.push.new.self.items c.first_row.result inv.count c.in_ok-push.ensures.items
          c.first_row.ensures inv.done;
    }

pub returns-clause-table : goal.returns-clause-table
returns-clause-table c =
    first-table (tables_of c.args.world.now) c.args.assume c.loop-source.rows.items
    (rows-done (tables_of c.args.world.now) c.args.assume c.loop-source.source c.loop-source.rows.items c.loop-source.invariant.count
    (subst (λ n. n ≤ c.loop-source.source) c.len-source-end.ensures c.loop-source-test.false) c.loop-source.invariant.done)

pub returns-clause-settled : goal.returns-clause-settled
returns-clause-settled c =
    first-settled (tables_of c.args.world.now) c.args.assume c.loop-source.rows.items
    (rows-done (tables_of c.args.world.now) c.args.assume c.loop-source.source c.loop-source.rows.items c.loop-source.invariant.count
    (subst (λ n. n ≤ c.loop-source.source) c.len-source-end.ensures c.loop-source-test.false) c.loop-source.invariant.done)
