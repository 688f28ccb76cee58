use Rattle.std.proofs.Common.{◌≢◌, ℕ, ◌+◌, ◌∙◌, sym, ap, subst, arith, List}
use Rattle.std.specs.Prelude.{◌==◌}
use Rattle.std.proofs.lemmas.List.{nil_from_length}
use Rattle.tm_walk.specs.declared.way.Way.{Way}
use Rattle.tm_walk.proofs.LayerLemmas.{nothing_answered}
use Rattle.tm_walk.proofs.RunLemmas.{IsWalked, walked_states, walked_leads, walked_front, walked_long, walked_found, walked_end, walked_empty, walked_on, walked_narrow}
use Rattle.tm_walk.proofs.advance.Walk.go_on.Goals as goal
use Rattle.tm_walk.proofs.advance.Walk.go_on.Goals.{then-at_end-via-then-at_end, then-at_end-via-else-at_end+then-len-eq0}

pub found-requires-clause-leads : goal.found-requires-clause-leads
found-requires-clause-leads g c =
    walked_leads (g.M.RefTest.test c.args.self.now.refs.now) c.args.self.now.src.now c.args.self.now.dst.now c.law.ensures.automaton c.law.ensures.reads c.law-2.ensures.automaton c.law-2.ensures.reads (g.Q.Quantifier.stop c.args.self.now.quantifier.now) (g.Q.Quantifier.skip c.args.self.now.quantifier.now) c.places.front.layer c.places.front.history c.places.place c.places.invariant.walked
    _ (ap (λ (n : ℕ). c.places.place == n) c.size-size.ensures) c.in-Some.k c.in-Some.ensures

pub found-requires-clause-front : goal.found-requires-clause-front
found-requires-clause-front g c =
    walked_front (g.M.RefTest.test c.args.self.now.refs.now) c.args.self.now.src.now c.args.self.now.dst.now c.law.ensures.automaton c.law.ensures.reads c.law-2.ensures.automaton c.law-2.ensures.reads (g.Q.Quantifier.stop c.args.self.now.quantifier.now) (g.Q.Quantifier.skip c.args.self.now.quantifier.now) c.places.front.layer c.places.front.history c.places.place c.places.invariant.walked
    _ (ap (λ (n : ℕ). c.places.place == n) c.size-size.ensures) c.in-Some.k c.in-Some.ensures

pub found-requires-clause-few : goal.found-requires-clause-few
found-requires-clause-few g c =
    let long = walked_long (g.M.RefTest.test c.args.self.now.refs.now) c.args.self.now.src.now c.args.self.now.dst.now c.law.ensures.automaton c.law.ensures.reads c.law-2.ensures.automaton c.law-2.ensures.reads (g.Q.Quantifier.stop c.args.self.now.quantifier.now) (g.Q.Quantifier.skip c.args.self.now.quantifier.now) c.places.front.layer c.places.front.history c.places.place c.places.invariant.walked
    _ (ap (λ (n : ℕ). c.places.place == n) c.size-size.ensures) c.in-Some.k c.in-Some.ensures in
    let fits = c.places.auto.place-fits in
    omega (arith, long, fits)

pub returns-in-Some-clause-found : goal.returns-in-Some-clause-found
returns-in-Some-clause-found g c =
    walked_found (g.M.RefTest.test c.args.self.now.refs.now) c.args.self.now.src.now c.args.self.now.dst.now c.law.ensures.automaton c.law.ensures.reads c.law-2.ensures.automaton c.law-2.ensures.reads (g.Q.Quantifier.stop c.args.self.now.quantifier.now) (g.Q.Quantifier.skip c.args.self.now.quantifier.now) c.places.front.layer c.places.front.history c.places.place c.places.invariant.walked
    _ (ap (λ (n : ℕ). c.places.place == n) c.size-size.ensures) c.in-Some.k c.in-Some.ensures _ _ c.in_ok-found-in-Some.ensures.word c.in_ok-found-in-Some.ensures.offset

pub returns-then-at_end-clause-none : goal.returns-then-at_end-clause-none
returns-then-at_end-clause-none g c =
    elim c.then-at_end.branch [
      | then-at_end-via-then-at_end w ↦ walked_end (g.M.RefTest.test c.args.self.now.refs.now) c.args.self.now.src.now c.args.self.now.dst.now c.law.ensures.automaton c.law.ensures.reads c.law-2.ensures.automaton c.law-2.ensures.reads (g.Q.Quantifier.stop c.args.self.now.quantifier.now) (g.Q.Quantifier.skip c.args.self.now.quantifier.now) c.places.front.layer c.places.front.history c.places.place c.places.invariant.walked
          _ (ap (λ (n : ℕ). c.places.place == n) c.size-size.ensures) c.in-None.ensures (w.if-at_end.true ∙ c.size-size.ensures)
      | then-at_end-via-else-at_end+then-len-eq0 w ↦ walked_empty (g.M.RefTest.test c.args.self.now.refs.now) c.args.self.now.src.now c.args.self.now.dst.now c.law.ensures.automaton c.law.ensures.reads c.law-2.ensures.automaton c.law-2.ensures.reads (g.Q.Quantifier.stop c.args.self.now.quantifier.now) (g.Q.Quantifier.skip c.args.self.now.quantifier.now) c.places.front.layer c.places.front.history c.places.place c.places.invariant.walked
          _ (ap (λ (n : ℕ). c.places.place == n) c.size-size.ensures) c.in-None.ensures (nil_from_length c.places.front.layer (sym w.len.ensures ∙ w.if-len-eq0.true))
    ]

pub advance-requires : goal.advance-requires
advance-requires g c =
    record { states = walked_states (g.M.RefTest.test c.args.self.now.refs.now) c.args.self.now.src.now c.args.self.now.dst.now c.law.ensures.automaton c.law.ensures.reads c.law-2.ensures.automaton c.law-2.ensures.reads (g.Q.Quantifier.stop c.args.self.now.quantifier.now) (g.Q.Quantifier.skip c.args.self.now.quantifier.now) c.places.front.layer c.places.front.history c.places.place c.places.invariant.walked }

pub returns-in_err-front-clause-cost : goal.returns-in_err-front-clause-cost
returns-in_err-front-clause-cost g c =
    λ one two halts.
    let few = walked_narrow (g.M.RefTest.test c.args.self.now.refs.now) c.args.self.now.src.now c.args.self.now.dst.now c.law.ensures.automaton c.law.ensures.reads c.law-2.ensures.automaton c.law-2.ensures.reads (g.Q.Quantifier.stop c.args.self.now.quantifier.now) (g.Q.Quantifier.skip c.args.self.now.quantifier.now) c.places.front.layer c.places.front.history c.places.place c.places.invariant.walked
    _ (ap (λ (n : ℕ). c.places.place == n) c.size-size.ensures) c.in-None.ensures one two halts in
    let before = c.places.invariant.cost one two halts in
    let more = c.advance.ensures.cost in
    let within = c.places.invariant.walked.within in
    omega arith

pub returns-in_err-ways-clause-cost : goal.returns-in_err-ways-clause-cost
returns-in_err-ways-clause-cost g c =
    λ one two halts.
    let few = walked_narrow (g.M.RefTest.test c.args.self.now.refs.now) c.args.self.now.src.now c.args.self.now.dst.now c.law.ensures.automaton c.law.ensures.reads c.law-2.ensures.automaton c.law-2.ensures.reads (g.Q.Quantifier.stop c.args.self.now.quantifier.now) (g.Q.Quantifier.skip c.args.self.now.quantifier.now) c.places.front.layer c.places.front.history c.places.place c.places.invariant.walked
    _ (ap (λ (n : ℕ). c.places.place == n) c.size-size.ensures) c.in-None.ensures one two halts in
    let before = c.places.invariant.cost one two halts in
    let more = c.advance.ensures.cost in
    let within = c.places.invariant.walked.within in
    omega arith

pub returns-in_err-add-clause-cost : goal.returns-in_err-add-clause-cost
returns-in_err-add-clause-cost g c =
    λ one two halts.
    let few = walked_narrow (g.M.RefTest.test c.args.self.now.refs.now) c.args.self.now.src.now c.args.self.now.dst.now c.law.ensures.automaton c.law.ensures.reads c.law-2.ensures.automaton c.law-2.ensures.reads (g.Q.Quantifier.stop c.args.self.now.quantifier.now) (g.Q.Quantifier.skip c.args.self.now.quantifier.now) c.places.front.layer c.places.front.history c.places.place c.places.invariant.walked
    _ (ap (λ (n : ℕ). c.places.place == n) c.size-size.ensures) c.in-None.ensures one two halts in
    let before = c.places.invariant.cost one two halts in
    let more = c.advance.ensures.cost in
    let within = c.places.invariant.walked.within in
    omega arith

pub places-preserved : goal.places-preserved
places-preserved g c =
    let less : c.places.place ≢ c.args.self.now.dst.now.size = λ e. c.if-at_end.false (e ∙ sym c.size-size.ensures) in
    record {
      walked = subst (λ (z : List (List Way)). IsWalked (g.M.RefTest.test c.args.self.now.refs.now) c.args.self.now.src.now c.args.self.now.dst.now (g.Q.Quantifier.stop c.args.self.now.quantifier.now) (g.Q.Quantifier.skip c.args.self.now.quantifier.now) c.in_ok-front.field-0 z (c.places.place + 1)) (sym c.in_ok-add.ensures)
          (walked_on (g.M.RefTest.test c.args.self.now.refs.now) c.args.self.now.src.now c.args.self.now.dst.now c.law.ensures.automaton c.law.ensures.reads c.law-2.ensures.automaton c.law-2.ensures.reads (g.Q.Quantifier.stop c.args.self.now.quantifier.now) (g.Q.Quantifier.skip c.args.self.now.quantifier.now) c.places.front.layer c.places.front.history c.places.place c.places.invariant.walked
          _ (ap (λ (n : ℕ). c.places.place == n) c.size-size.ensures) c.in-None.ensures c.in_ok-front.field-0 c.in_ok-ways.field-0.items less c.in_ok-front.ensures.next c.in_ok-ways.ensures);
      cost = λ one two halts.
          let few = walked_narrow (g.M.RefTest.test c.args.self.now.refs.now) c.args.self.now.src.now c.args.self.now.dst.now c.law.ensures.automaton c.law.ensures.reads c.law-2.ensures.automaton c.law-2.ensures.reads (g.Q.Quantifier.stop c.args.self.now.quantifier.now) (g.Q.Quantifier.skip c.args.self.now.quantifier.now) c.places.front.layer c.places.front.history c.places.place c.places.invariant.walked
          _ (ap (λ (n : ℕ). c.places.place == n) c.size-size.ensures) c.in-None.ensures one two halts in
          let before = c.places.invariant.cost one two halts in
          let more = c.advance.ensures.cost in
          omega arith;
      counted = let a = c.places.invariant.counted in let b = c.advance.ensures.counted in omega arith;
    }

pub returns-in_err-add-clause-found : goal.returns-in_err-add-clause-found
returns-in_err-add-clause-found g c = nothing_answered _ _ c.from_residual-in_err-add.result c.from_residual-in_err-add.ensures.1

pub returns-in_err-add-clause-none : goal.returns-in_err-add-clause-none
returns-in_err-add-clause-none g c = nothing_answered _ _ c.from_residual-in_err-add.result c.from_residual-in_err-add.ensures.1
