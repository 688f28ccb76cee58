use Rattle.std.proofs.Common.{◌≡◌, ◌≤◌, ◌+◌, ◌∙◌, ◌∷◌, [], ap, subst, refl, length, Some, slice_get, length-append}
use Rattle.std.proofs.lemmas.Option.{slice_get_read}
use Rattle.tm_base.specs.Worlds.{tables_of}
use Rattle.tm_refs.proofs.PointeeLemmas.{pointee-over}
use Rattle.tm_refute.proofs.making.JudgedLemmas.{judged-all, judged-more}
use Rattle.tm_refute.proofs.judged.Judged.new.Goals as goal

pub is_judged-requires-clause-over : goal.is_judged-requires-clause-over
is_judged-requires-clause-over c =
    let rows = c.as_slice-row-items.result.now in
    let at = slice_get_read rows (length rows) c.loop-row.row-index c.row-item.result refl c.loop-row-test.true c.row-item.is in
    pointee-over c.args.world.now (record { 0 = c.loop-row.row-index }) c.row-item.result
    (subst (λ rs. slice_get rs c.loop-row.row-index ≡ Some c.row-item.result) c.as_slice-row-items.ensures at)

pub loop-row-preserved : goal.loop-row-preserved
loop-row-preserved c =
    let rows = c.as_slice-row-items.result.now in
    let at = slice_get_read rows (length rows) c.loop-row.row-index c.row-item.result refl c.loop-row-test.true c.row-item.is in
    let i = c.loop-row.row-index in
    let inv = c.loop-row.invariant in
    record {
      count = ap length c.in_ok-push.ensures.items ∙ (length-append c.loop-row.items.items (c.in_ok-is_judged.field-0 ∷ []) ∙ ap (λ n. n + 1) inv.count);
      each =
          judged-more (tables_of c.args.world.now) i c.row-item.result c.loop-row.items.items c.push.new.self.items c.in_ok-is_judged.field-0
          (subst (λ rs. slice_get rs i ≡ Some c.row-item.result) c.as_slice-row-items.ensures at) inv.count c.in_ok-push.ensures.items c.in_ok-is_judged.ensures inv.each;
    }

pub returns : goal.returns
returns c =
    judged-all (tables_of c.args.world.now) c.loop-row.row-index c.loop-row.items.items
    (subst (λ rs. length rs ≤ c.loop-row.row-index) c.as_slice-row-items.ensures c.loop-row-test.false) c.loop-row.invariant.each
