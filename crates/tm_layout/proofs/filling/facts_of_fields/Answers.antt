use Rattle.std.proofs.Common.{refl, length}
use Rattle.std.proofs.lemmas.Option.{slice_get_read}
use Rattle.tm_base.specs.Tables.{expanded_in}
use Rattle.tm_layout.specs.Known.{IsFactsOf}
use Rattle.tm_layout.proofs.RowLemmas.{matches-more}
use Rattle.tm_layout.proofs.filling.facts_of_fields.Goals as goal

pub loop-g-preserved : goal.loop-g-preserved
loop-g-preserved c = λ tables same are known.
    let at = slice_get_read c.args.types.now (length c.args.types.now) c.loop-g.g-index c.g-item.result refl c.loop-g-test.true c.g-item.is in
    rw c.in_ok-add.ensures.added (matches-more (λ g facts. IsFactsOf (expanded_in tables g) facts) c.args.types.now c.loop-g.facts c.loop-g.g-index c.g-item.result c.facts_of.result c.loop-g-test.true c.g-item.is
    (c.loop-g.invariant tables same are known) (c.facts_of.ensures tables same are (known c.loop-g.g-index c.g-item.result at)))
