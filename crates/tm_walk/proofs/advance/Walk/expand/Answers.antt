use Rattle.std.proofs.Common.{◌∙◌, ap, arith}
use Rattle.tm_walk.proofs.ExpandLemmas.{only_offered}
use Rattle.tm_walk.proofs.NextLayerLemmas.{on_ok, goes_on_weight, read_source, read_target, steps_expanded}
use Rattle.tm_walk.proofs.advance.Walk.expand.Goals as goal

pub only_step-requires-clause-from : goal.only_step-requires-clause-from
only_step-requires-clause-from g c = read_source (g.Q.Quantifier.skip c.args.self.now.quantifier.now) c.args.layer.now c.args.k _ _ c.sets.ensures (g.M.RefTest.test c.args.self.now.refs.now) c.args.self.now.src.now c.args.self.now.dst.now c.requires.states

pub only_step-requires-clause-to : goal.only_step-requires-clause-to
only_step-requires-clause-to g c = read_target (g.Q.Quantifier.skip c.args.self.now.quantifier.now) c.args.layer.now c.args.k _ _ c.sets.ensures (g.M.RefTest.test c.args.self.now.refs.now) c.args.self.now.src.now c.args.self.now.dst.now c.requires.states

pub returns-in-Some-clause-expanded : goal.returns-in-Some-clause-expanded
returns-in-Some-clause-expanded g c = on_ok c.offer.result (λ o.
    steps_expanded (g.Q.Quantifier.skip c.args.self.now.quantifier.now) c.args.layer.now c.args.k _ _ c.sets.ensures (g.M.RefTest.test c.args.self.now.refs.now) c.args.self.now.src.now c.args.self.now.dst.now c.args.place
    _ (c.skips.ensures ∙ ap (g.Q.Quantifier.skip c.args.self.now.quantifier.now) c.is_live.ensures) c.if-skips.false _ c.in-Some.ensures.symbols _ _
    (only_offered (g.M.RefTest.test c.args.self.now.refs.now) c.args.self.now.src.now c.args.self.now.dst.now _ _ c.args.k _ _ _ _ c.in-Some.ensures.source c.in-Some.ensures.target c.least.ensures _ _ o)) c.offer.ensures

pub returns-in-Some-clause-cost : goal.returns-in-Some-clause-cost
returns-in-Some-clause-cost g c =
    let w = goes_on_weight (g.Q.Quantifier.skip c.args.self.now.quantifier.now) c.args.layer.now c.args.k _ _ c.sets.ensures _ (c.skips.ensures ∙ ap (g.Q.Quantifier.skip c.args.self.now.quantifier.now) c.is_live.ensures) c.if-skips.false in
    let t = c.tick.ensures in
    omega arith

pub symbols-requires-clause-from : goal.symbols-requires-clause-from
symbols-requires-clause-from g c = read_source (g.Q.Quantifier.skip c.args.self.now.quantifier.now) c.args.layer.now c.args.k _ _ c.sets.ensures (g.M.RefTest.test c.args.self.now.refs.now) c.args.self.now.src.now c.args.self.now.dst.now c.requires.states

pub symbols-requires-clause-to : goal.symbols-requires-clause-to
symbols-requires-clause-to g c = read_target (g.Q.Quantifier.skip c.args.self.now.quantifier.now) c.args.layer.now c.args.k _ _ c.sets.ensures (g.M.RefTest.test c.args.self.now.refs.now) c.args.self.now.src.now c.args.self.now.dst.now c.requires.states

pub returns-in_err-symbols-clause-cost : goal.returns-in_err-symbols-clause-cost
returns-in_err-symbols-clause-cost g c =
    let w = goes_on_weight (g.Q.Quantifier.skip c.args.self.now.quantifier.now) c.args.layer.now c.args.k _ _ c.sets.ensures _ (c.skips.ensures ∙ ap (g.Q.Quantifier.skip c.args.self.now.quantifier.now) c.is_live.ensures) c.if-skips.false in
    let t = c.tick.ensures in
    omega arith

pub offer_steps-requires-clause-from : goal.offer_steps-requires-clause-from
offer_steps-requires-clause-from g c = read_source (g.Q.Quantifier.skip c.args.self.now.quantifier.now) c.args.layer.now c.args.k _ _ c.sets.ensures (g.M.RefTest.test c.args.self.now.refs.now) c.args.self.now.src.now c.args.self.now.dst.now c.requires.states

pub offer_steps-requires-clause-to : goal.offer_steps-requires-clause-to
offer_steps-requires-clause-to g c = read_target (g.Q.Quantifier.skip c.args.self.now.quantifier.now) c.args.layer.now c.args.k _ _ c.sets.ensures (g.M.RefTest.test c.args.self.now.refs.now) c.args.self.now.src.now c.args.self.now.dst.now c.requires.states

pub returns-clause-expanded : goal.returns-clause-expanded
returns-clause-expanded g c = on_ok c.offer_steps.result (λ o.
    steps_expanded (g.Q.Quantifier.skip c.args.self.now.quantifier.now) c.args.layer.now c.args.k _ _ c.sets.ensures (g.M.RefTest.test c.args.self.now.refs.now) c.args.self.now.src.now c.args.self.now.dst.now c.args.place
    _ (c.skips.ensures ∙ ap (g.Q.Quantifier.skip c.args.self.now.quantifier.now) c.is_live.ensures) c.if-skips.false _ (rw c.as_slice.ensures c.in_ok-symbols.ensures) _ _ o) c.offer_steps.ensures

pub returns-clause-cost : goal.returns-clause-cost
returns-clause-cost g c =
    let w = goes_on_weight (g.Q.Quantifier.skip c.args.self.now.quantifier.now) c.args.layer.now c.args.k _ _ c.sets.ensures _ (c.skips.ensures ∙ ap (g.Q.Quantifier.skip c.args.self.now.quantifier.now) c.is_live.ensures) c.if-skips.false in
    let t = c.tick.ensures in
    omega arith
