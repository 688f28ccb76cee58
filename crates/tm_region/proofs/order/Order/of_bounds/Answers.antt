use Rattle.std.proofs.Common.{◌∙◌, take, slice_index_or}
use Rattle.std.proofs.lemmas.List.{take_more, take_all}
use Rattle.std.proofs.lemmas.List.FromFn.{length-map-range_with_len}
use Rattle.tm_base.specs.declared.definition.Bound.{Bound}
use Rattle.tm_region.specs.Table.{lone_row}
use Rattle.tm_region.proofs.TableLemmas.{IsTableOf-start, IsTableOf-add, IsOrderOf-table, bound-known-at}
use Rattle.tm_region.proofs.order.Order.of_bounds.Goals as goal

-- what is read where there is no bound
abbrev none : Bound
none = record { longer = record { 0 = 0 }; shorter = record { 0 = 0 } }

pub loop-bound-init : goal.loop-bound-init
loop-bound-init c = rw c.in_ok-order.ensures (record { table = IsTableOf-start c.args.count c.requires.few; count = length-map-range_with_len lone_row 0 c.args.count })

pub add-requires-clause-longer : goal.add-requires-clause-longer
add-requires-clause-longer c = rw c.loop-bound.invariant.count (bound-known-at c.args.count c.args.bounds.now c.loop-bound.bound-index none c.requires.known c.loop-bound-test.true).0

pub add-requires-clause-shorter : goal.add-requires-clause-shorter
add-requires-clause-shorter c = rw c.loop-bound.invariant.count (bound-known-at c.args.count c.args.bounds.now c.loop-bound.bound-index none c.requires.known c.loop-bound-test.true).1

pub loop-bound-preserved : goal.loop-bound-preserved
loop-bound-preserved c =
    let bounds = c.args.bounds.now in
    let at = c.loop-bound.bound-index in
    let (longer, shorter) = bound-known-at c.args.count bounds at none c.requires.known c.loop-bound-test.true in
    record {
      table = rw (take_more bounds at none c.loop-bound-test.true) (IsTableOf-add (take at bounds) (slice_index_or bounds at none) c.loop-bound.order c.add.new.self c.loop-bound.invariant.table c.add.ensures.count (rw c.loop-bound.invariant.count longer) (rw c.loop-bound.invariant.count shorter) c.add.ensures.added);
      count = c.add.ensures.count ∙ c.loop-bound.invariant.count;
    }

pub returns : goal.returns
returns c =
    let whole = take_all c.loop-bound.bound-index c.args.bounds.now c.loop-bound-test.false in
    IsOrderOf-table c.args.bounds.now c.loop-bound.order (rw whole at c.loop-bound.invariant.table) (rw c.loop-bound.invariant.count c.requires.known)
