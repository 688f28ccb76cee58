use Rattle.std.proofs.Common.{◌∙◌, ap, sym, Bool}
use Rattle.std.proofs.lemmas.Bool.{both_ways}
use Rattle.tm_base.specs.Worlds.{tables_of}
use Rattle.tm_refs.specs.Looks.{row_is_mutable}
use Rattle.tm_refs.proofs.CastLemmas.{IfOk-then, OnRows-tells, casts-backward, casts-forward, forward-enough, none-forward, with-backward}
use Rattle.tm_refs.proofs.PointeeLemmas.{OnRows-rows}
use Rattle.tm_refs.proofs.look.go_together.Goals as goal

pub returns-then-not-branch : goal.returns-then-not-branch
returns-then-not-branch g c =
    let tables = tables_of c.args.world.now in
    let A = g.M.RefTest.test c.args.refs.now in
    let (source, target, at_r, at_t, _) = OnRows-rows _ _ _ c.requires.judged in
    let forward =
    casts-forward tables c.args.assume A c.args.pointees.now.items.items c.requires.pointees c.args.pair.source.0 c.args.pair.target.0 source target at_r at_t
    c.in-Some-Some.source.now c.in-Some-Some.target.now c.in-Some-Some.ensures c.in-Some-Some.ensures'
    in
    OnRows-tells _ _ source target _ at_r at_t
    (none-forward tables c.args.assume A source target _ forward (λ h. both_ways _ c.if-not-branch.true (c.in_ok-casts.ensures.1 h)))

pub returns-then-not-is_mutable : goal.returns-then-not-is_mutable
returns-then-not-is_mutable g c =
    let tables = tables_of c.args.world.now in
    let A = g.M.RefTest.test c.args.refs.now in
    let (source, target, at_r, at_t, _) = OnRows-rows _ _ _ c.requires.judged in
    let forward =
    casts-forward tables c.args.assume A c.args.pointees.now.items.items c.requires.pointees c.args.pair.source.0 c.args.pair.target.0 source target at_r at_t
    c.in-Some-Some.source.now c.in-Some-Some.target.now c.in-Some-Some.ensures c.in-Some-Some.ensures'
    in
    OnRows-tells _ _ source target _ at_r at_t
    (forward-enough tables c.args.assume A source target _ forward (c.in_ok-casts.ensures.0 c.if-not-branch.false)
    (sym (c.is_mutable.ensures ∙ ap row_is_mutable at_t) ∙ c.if-not-is_mutable.true))

pub returns : goal.returns
returns g c =
    let tables = tables_of c.args.world.now in
    let A = g.M.RefTest.test c.args.refs.now in
    let (source, target, at_r, at_t, _) = OnRows-rows _ _ _ c.requires.judged in
    let forward =
    casts-forward tables c.args.assume A c.args.pointees.now.items.items c.requires.pointees c.args.pair.source.0 c.args.pair.target.0 source target at_r at_t
    c.in-Some-Some.source.now c.in-Some-Some.target.now c.in-Some-Some.ensures c.in-Some-Some.ensures'
    in
    let backward =
    casts-backward tables c.args.assume A c.args.pointees.now.items.items c.requires.pointees c.args.pair.source.0 c.args.pair.target.0 source target at_r at_t
    c.in-Some-Some.source.now c.in-Some-Some.target.now c.in-Some-Some.ensures c.in-Some-Some.ensures'
    in
    IfOk-then c.casts-2.result _ _
    (λ (b : Bool) is.
    OnRows-tells _ _ source target _ at_r at_t
    (with-backward tables c.args.assume A source target _ forward (c.in_ok-casts.ensures.0 c.if-not-branch.false)
    (sym (c.is_mutable.ensures ∙ ap row_is_mutable at_t) ∙ c.if-not-is_mutable.false) _ b backward is))
    c.casts-2.ensures
