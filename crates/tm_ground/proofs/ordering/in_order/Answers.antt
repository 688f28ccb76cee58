use Rattle.std.proofs.lemmas.List.Elements.{All-contains}
use Rattle.tm_ground.specs.Limits.{is_named, is_ref, OccursAs}
use Rattle.tm_ground.specs.Sets.{closed_types}
use Rattle.tm_ground.proofs.numbers.HasNumbersLemmas.{have-numbers}
use Rattle.tm_ground.proofs.world.OrderLemmas.{in-order, moved-whole}
use Rattle.tm_ground.proofs.world.RowLemmas.{all-rows, world-of}
use Rattle.tm_ground.proofs.ordering.in_order.Goals as goal

pub make_world-requires-clause-whole : goal.make_world-requires-clause-whole
make_world-requires-clause-whole c = all-rows c.requires.whole c.requires.rows

pub in_text_order-requires-clause-numbers : goal.in_text_order-requires-clause-numbers
in_text_order-requires-clause-numbers c =
    have-numbers c.args.resolved.now _ _ _ c.requires.whole (λ x h. (All-contains (OccursAs is_named c.args.resolved.now) _ x c.requires.whole.rows.all.each h).occurs)

pub in_text_order-requires-2-clause-numbers : goal.in_text_order-requires-2-clause-numbers
in_text_order-requires-2-clause-numbers c =
    have-numbers c.args.resolved.now _ _ _ c.requires.whole (λ x h. (All-contains (OccursAs is_ref c.args.resolved.now) _ x c.requires.whole.refs.all.each h).occurs)

pub returns-clause-whole : goal.returns-clause-whole
returns-clause-whole c =
    moved-whole c.args.resolved.now _ _ c.requires.whole _ _ c.in_ok-in_text_order.ensures.moved c.in_ok-in_text_order-2.ensures.moved

pub returns-clause-named : goal.returns-clause-named
returns-clause-named c =
    in-order c.args.resolved.now _ _ c.requires.whole c.in_ok-world.world (world-of _ _ _ _ _ c.requires.rows c.in_ok-world.ensures) is_named (closed_types c.args.found.now.named) _ c.requires.whole.rows.all.each c.in_ok-in_text_order.ensures.moved c.in_ok-in_text_order.ensures.sorted

pub returns-clause-refs : goal.returns-clause-refs
returns-clause-refs c =
    in-order c.args.resolved.now _ _ c.requires.whole c.in_ok-world.world (world-of _ _ _ _ _ c.requires.rows c.in_ok-world.ensures) is_ref (closed_types c.args.found.now.refs) _ c.requires.whole.refs.all.each c.in_ok-in_text_order-2.ensures.moved c.in_ok-in_text_order-2.ensures.sorted
