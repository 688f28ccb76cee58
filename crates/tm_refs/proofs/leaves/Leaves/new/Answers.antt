use Rattle.std.proofs.Common.{◌≡◌, ◌≤◌, ◌+◌, ◌∙◌, ◌∷◌, [], ap, refl, subst, length, Some, slice_get, length-append}
use Rattle.std.proofs.lemmas.Option.{slice_get_read}
use Rattle.tm_base.specs.Worlds.{tables_of}
use Rattle.tm_refs.proofs.AddedLemmas.{leaves-done, leaves-more}
use Rattle.tm_refs.proofs.PointeeLemmas.{pointee-over}
use Rattle.tm_refs.proofs.leaves.Leaves.new.Goals as goal

pub leaves_of-requires : goal.leaves_of-requires
leaves_of-requires c =
    let rows = c.as_slice-row-items.result.now in
    let at = slice_get_read rows (length rows) c.loop-row.row-index c.row-item.result refl c.loop-row-test.true c.row-item.is in
    record {
      over =
          pointee-over c.args.world.now (record { 0 = c.loop-row.row-index }) c.row-item.result
          (subst (λ rs. slice_get rs c.loop-row.row-index ≡ Some c.row-item.result) c.as_slice-row-items.ensures at);
    }

pub loop-row-preserved : goal.loop-row-preserved
loop-row-preserved c =
    let rows = c.as_slice-row-items.result.now in
    let at = slice_get_read rows (length rows) c.loop-row.row-index c.row-item.result refl c.loop-row-test.true c.row-item.is in
    let i = c.loop-row.row-index in
    let inv = c.loop-row.invariant in
    record {
      count = ap length c.in_ok-push.ensures.items ∙ (length-append c.loop-row.rows.items (c.leaves_of.result ∷ []) ∙ ap (λ n. n + 1) inv.count);
      exact =
          leaves-more (tables_of c.args.world.now) i c.row-item.result c.loop-row.rows.items c.push.new.self.items c.leaves_of.result
          (subst (λ rs. slice_get rs i ≡ Some c.row-item.result) c.as_slice-row-items.ensures at) inv.count c.in_ok-push.ensures.items c.leaves_of.ensures inv.exact;
    }

pub returns : goal.returns
returns c =
    leaves-done (tables_of c.args.world.now) c.loop-row.row-index c.loop-row.rows.items c.loop-row.invariant.count
    (subst (λ rs. length rs ≤ c.loop-row.row-index) c.as_slice-row-items.ensures c.loop-row-test.false) c.loop-row.invariant.exact
