use Rattle.std.proofs.Common.{inl, inr, ◌∙◌, sym}
use Rattle.tm_base.specs.Worlds.{tables_of}
use Rattle.tm_refs.proofs.FirstLemmas.{breaks-first, judged-found, holds-first, unfound-unjudged, unjudged-first}
use Rattle.tm_refs.proofs.first.first_standing.Goals as goal
use Rattle.tm_refs.proofs.first.first_standing.Goals.{then-not-is_judged-via-then-not-is_judged, then-not-is_judged-via-else-not-is_judged+then-not-is_judged-2}

pub returns-then-not-is_judged : goal.returns-then-not-is_judged
returns-then-not-is_judged c =
    let tables = tables_of c.args.world.now in
    unjudged-first tables c.args.assume c.args.source.0 c.args.target.0
    (unfound-unjudged tables c.args.assume c.args.pointees.now.items.items c.requires.pointees c.args.source.0 c.args.target.0
    (elim c.then-not-is_judged.branch [
      | then-not-is_judged-via-then-not-is_judged w ↦ inl (sym c.is_judged.ensures ∙ w.if-not-is_judged.true)
      | then-not-is_judged-via-else-not-is_judged+then-not-is_judged-2 w ↦ inr (sym w.is_judged-else-not-is_judged.ensures ∙ w.if-not-is_judged-2.true)
    ]))

pub local-requires-clause-judged : goal.local-requires-clause-judged
local-requires-clause-judged c =
    judged-found (tables_of c.args.world.now) c.args.assume c.args.pointees.now.items.items c.requires.pointees c.args.source.0 c.args.target.0 c.requires.source c.requires.target
    (sym c.is_judged.ensures ∙ c.if-not-is_judged.false) (sym c.is_judged-else-not-is_judged.ensures ∙ c.if-not-is_judged-2.false)

pub returns-in-Ok : goal.returns-in-Ok
returns-in-Ok c =
    holds-first (tables_of c.args.world.now) c.args.assume c.args.source.0 c.args.target.0
    (judged-found (tables_of c.args.world.now) c.args.assume c.args.pointees.now.items.items c.requires.pointees c.args.source.0 c.args.target.0 c.requires.source c.requires.target
    (sym c.is_judged.ensures ∙ c.if-not-is_judged.false) (sym c.is_judged-else-not-is_judged.ensures ∙ c.if-not-is_judged-2.false))
    c.in-Ok.ensures.answer

pub returns-in-Err : goal.returns-in-Err
returns-in-Err c =
    breaks-first (tables_of c.args.world.now) c.args.assume c.args.source.0 c.args.target.0 c.in-Err.rule
    (judged-found (tables_of c.args.world.now) c.args.assume c.args.pointees.now.items.items c.requires.pointees c.args.source.0 c.args.target.0 c.requires.source c.requires.target
    (sym c.is_judged.ensures ∙ c.if-not-is_judged.false) (sym c.is_judged-else-not-is_judged.ensures ∙ c.if-not-is_judged-2.false))
    c.in-Err.ensures.answer
