use Rattle.std.proofs.Common.{IsTrue, ◌↔◌, subst, sym}
use Rattle.tm_refs.specs.Pointees.{SomeWordFits}
use Rattle.tm_refs.proofs.WalkLemmas.{some-fits}
use Rattle.tm_refs.proofs.casts.some_word_fits.Goals as goal

pub returns : goal.returns
returns g c =
    let A = g.M.RefTest.test c.args.refs.now in
    subst (λ b. IsTrue b ↔ SomeWordFits A c.args.source.now c.args.target.now) (sym c.is_some.ensures)
    (some-fits A c.args.source.now c.args.target.now c.in_ok-accepted.accepted (c.exists_seeks_examples.ensures.none A) (c.exists_seeks_examples.ensures.found A)
    c.in_ok-accepted.ensures.none c.in_ok-accepted.ensures.found)
