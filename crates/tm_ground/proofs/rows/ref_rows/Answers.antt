use Rattle.std.proofs.Common.{◌≡◌, ◌∙◌, true, ap, subst, arith, Contains, take_all}
use Rattle.std.specs.List.{AllZip}
use Rattle.std.proofs.lemmas.List.Elements.{All-contains}
use Rattle.tm_ground.specs.Closed.{closed}
use Rattle.tm_ground.specs.Limits.{is_ref}
use Rattle.tm_ground.specs.Rows.{IsRefRow}
use Rattle.tm_ground.specs.Sets.{closed_types}
use Rattle.tm_ground.proofs.numbers.NumberLemmas.{contains-map, numbered-more}
use Rattle.tm_ground.proofs.rows.ref_rows.Goals as goal

pub ref_row-requires-clause-kind : goal.ref_row-requires-clause-kind
ref_row-requires-clause-kind c =
    let there = contains-map closed c.types-ty-items.result.now c.loop-ty.ty-index c.ty-item.result c.loop-ty-test.true c.ty-item.is in
    All-contains (λ d. is_ref d ≡ true) _ _ c.requires.kind (subst (λ cs. Contains cs (closed c.ty-item.result)) c.types-ty-items.ensures there)

pub ref_row-requires-clause-numbers : goal.ref_row-requires-clause-numbers
ref_row-requires-clause-numbers c =
    let there = contains-map closed c.types-ty-items.result.now c.loop-ty.ty-index c.ty-item.result c.loop-ty-test.true c.ty-item.is in
    c.requires.numbers.each _ (subst (λ cs. Contains cs (closed c.ty-item.result)) c.types-ty-items.ensures there)

pub loop-ty-preserved : goal.loop-ty-preserved
loop-ty-preserved c =
    numbered-more _ closed c.types-ty-items.result.now c.loop-ty.ty-index _ _ c.ty-item.result _ c.loop-ty-test.true c.ty-item.is c.loop-ty.invariant c.in_ok-ref_row.ensures c.in_ok-add.ensures.added

pub returns : goal.returns
returns c =
    let all = ap closed_types (take_all c.loop-ty.ty-index c.types-ty-items.result.now (omega (arith, c.loop-ty-test.false))) ∙ c.types-ty-items.ensures in
    subst (λ cs. AllZip (IsRefRow (closed_types c.args.found.now.named) (closed_types c.args.found.now.refs)) cs c.loop-ty.rows) all c.loop-ty.invariant
