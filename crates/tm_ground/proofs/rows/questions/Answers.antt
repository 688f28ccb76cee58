use Rattle.std.proofs.Common.{subst, flat_map, Contains}
use Rattle.tm_ground.specs.Occurs.{sides_of, is_asked}
use Rattle.tm_ground.proofs.numbers.HasNumbersLemmas.{have-numbers}
use Rattle.tm_ground.proofs.numbers.NumberLemmas.{contains-each, zip-more}
use Rattle.tm_ground.proofs.rows.questions.Goals as goal

pub numbered_ask-requires : goal.numbered_ask-requires
numbered_ask-requires c =
    have-numbers c.args.resolved.now _ _ _ c.requires (λ x h. is_asked x (subst (λ asks. Contains (flat_map sides_of asks) x) c.as_slice-ask-items.ensures
    (contains-each sides_of c.as_slice-ask-items.result.now c.loop-ask.ask-index c.ask-item.result x c.loop-ask-test.true c.ask-item.is h)))

pub loop-ask-preserved : goal.loop-ask-preserved
loop-ask-preserved c =
    zip-more _ c.args.resolved.now.asks c.loop-ask.ask-index _ _ c.ask-item.result _ (rw c.as_slice-ask-items.ensures at c.loop-ask-test.true) (rw c.as_slice-ask-items.ensures at c.ask-item.is)
    c.loop-ask.invariant c.in_ok-numbered_ask.ensures c.in_ok-add.ensures.added
