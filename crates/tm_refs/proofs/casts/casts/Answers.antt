use Rattle.std.proofs.Common.{Bool, true, IsTrue, ◌↔◌, subst, sym}
use Rattle.std.proofs.lemmas.Bool.{both_ways}
use Rattle.tm_refs.specs.Pointees.{AutoCasts, SomeWordFits}
use Rattle.tm_walk.specs.Meanings.{EachWordFits}
use Rattle.tm_refs.proofs.CastLemmas.{IfOk-then}
use Rattle.tm_refs.proofs.WalkLemmas.{casts-each, casts-none, casts-some}
use Rattle.tm_refs.proofs.casts.casts.Goals as goal

pub returns-then-not-validity : goal.returns-then-not-validity
returns-then-not-validity g c =
    let A = g.M.RefTest.test c.args.refs.now in
    let source = c.args.source.now in
    let target = c.args.target.now in
    IfOk-then c.is_included.result (λ b. IsTrue b ↔ EachWordFits A source target) (λ b. IsTrue b ↔ AutoCasts A c.args.validity source target)
    (λ (b : Bool) each. subst (λ v. IsTrue b ↔ AutoCasts A v source target) (sym c.if-not-validity.true) (casts-each A source target b each)) c.is_included.ensures.included

pub returns-then-branch : goal.returns-then-branch
returns-then-branch g c =
    let A = g.M.RefTest.test c.args.refs.now in
    let source = c.args.source.now in
    let target = c.args.target.now in
    subst (λ v. IsTrue true ↔ AutoCasts A v source target) (sym c.if-not-validity.false) (casts-none A source target (c.in_ok-has_no_word.ensures.0 c.if-branch.true))

pub returns : goal.returns
returns g c =
    let A = g.M.RefTest.test c.args.refs.now in
    let source = c.args.source.now in
    let target = c.args.target.now in
    IfOk-then c.some_word_fits.result (λ b. IsTrue b ↔ SomeWordFits A source target) (λ b. IsTrue b ↔ AutoCasts A c.args.validity source target)
    (λ (b : Bool) some.
    subst (λ v. IsTrue b ↔ AutoCasts A v source target) (sym c.if-not-validity.false)
    (casts-some A source target (λ none. both_ways _ c.if-branch.false (c.in_ok-has_no_word.ensures.1 none)) b some)) c.some_word_fits.ensures
