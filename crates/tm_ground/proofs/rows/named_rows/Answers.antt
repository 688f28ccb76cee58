use Rattle.std.proofs.Common.{◌∙◌, ap, subst, arith, Contains, take_all}
use Rattle.std.specs.List.{AllZip}
use Rattle.std.proofs.lemmas.List.Elements.{All-contains}
use Rattle.tm_ground.specs.Closed.{closed}
use Rattle.tm_ground.specs.Limits.{is_named, OccursAs}
use Rattle.tm_ground.specs.Rows.{IsNamedRow}
use Rattle.tm_ground.specs.Sets.{closed_types}
use Rattle.tm_ground.proofs.numbers.HasNumbersLemmas.{have-numbers}
use Rattle.tm_ground.proofs.numbers.NumberLemmas.{contains-map, numbered-more}
use Rattle.tm_ground.proofs.sizes.SmallLemmas.{occurring-part}
use Rattle.tm_ground.proofs.rows.named_rows.Goals as goal

pub named_row-requires-clause-kind : goal.named_row-requires-clause-kind
named_row-requires-clause-kind c =
    let there = contains-map closed c.types-ty-items.result.now c.loop-ty.ty-index c.ty-item.result c.loop-ty-test.true c.ty-item.is in
    (All-contains (OccursAs is_named c.args.resolved.now) _ _ c.requires.rows.all.each (subst (λ cs. Contains cs (closed c.ty-item.result)) c.types-ty-items.ensures there)).of_kind

pub named_row-requires-clause-numbers : goal.named_row-requires-clause-numbers
named_row-requires-clause-numbers c =
    let there = contains-map closed c.types-ty-items.result.now c.loop-ty.ty-index c.ty-item.result c.loop-ty-test.true c.ty-item.is in
    let o = All-contains (OccursAs is_named c.args.resolved.now) _ _ c.requires.rows.all.each (subst (λ cs. Contains cs (closed c.ty-item.result)) c.types-ty-items.ensures there) in
    have-numbers c.args.resolved.now _ _ _ c.requires (λ x h. occurring-part c.args.resolved.now c.requires.small (closed c.ty-item.result) x o.occurs h)

pub loop-ty-preserved : goal.loop-ty-preserved
loop-ty-preserved c =
    numbered-more _ closed c.types-ty-items.result.now c.loop-ty.ty-index _ _ c.ty-item.result _ c.loop-ty-test.true c.ty-item.is c.loop-ty.invariant c.in_ok-named_row.ensures c.in_ok-add.ensures.added

pub returns : goal.returns
returns c =
    let all = ap closed_types (take_all c.loop-ty.ty-index c.types-ty-items.result.now (omega (arith, c.loop-ty-test.false))) ∙ c.types-ty-items.ensures in
    subst (λ cs. AllZip (IsNamedRow (closed_types c.args.found.now.named) (closed_types c.args.found.now.refs) c.args.resolved.now) cs c.loop-ty.rows) all c.loop-ty.invariant
