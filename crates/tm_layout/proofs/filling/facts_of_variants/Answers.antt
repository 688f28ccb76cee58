use Rattle.std.proofs.Common.{refl, length, subst, sym}
use Rattle.std.proofs.lemmas.Option.{slice_get_read}
use Rattle.tm_layout.specs.Made.{EachIs, IsKnown}
use Rattle.tm_layout.specs.Making.{AreFactsFor}
use Rattle.tm_layout.proofs.RowLemmas.{matches-more}
use Rattle.tm_layout.proofs.filling.facts_of_variants.Goals as goal

pub loop-types-preserved : goal.loop-types-preserved
loop-types-preserved c = λ tables same are known.
    let at = slice_get_read c.args.variants.now (length c.args.variants.now) c.loop-types.types-index c.types-item.result refl c.loop-types-test.true c.types-item.is in
    let here = c.in_ok-fields.ensures tables same are (subst (EachIs (IsKnown tables c.args.rows.now)) (sym c.as_slice.ensures) (known c.loop-types.types-index c.types-item.result at)) in
    let facts = subst (λ types. AreFactsFor tables types c.in_ok-fields.fields) c.as_slice.ensures here in
    rw c.in_ok-add.ensures.added (matches-more (AreFactsFor tables) c.args.variants.now c.loop-types.facts c.loop-types.types-index c.types-item.result c.in_ok-fields.fields c.loop-types-test.true c.types-item.is
    (c.loop-types.invariant tables same are known) facts)
