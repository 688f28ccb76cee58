use Rattle.std.proofs.Common.{◌≡◌, ◌≤◌, ◌∙◌, sym, arith}
use Rattle.tm_walk.proofs.InclusionLemmas.{first_layer, next_layer, refused, answered}
use Rattle.tm_walk.proofs.inclusion.Inclusion.holds.Goals as goal

pub loop-place-init : goal.loop-place-init
loop-place-init g c =
    first_layer (g.M.RefTest.test c.args.self.now.refs.now) c.args.self.now.src.now c.args.self.now.dst.now c.law.ensures.automaton c.law.ensures.reads c.law-2.ensures.automaton c.law-2.ensures.reads
    c.in_ok-layer.layer c.in_ok-layer.ensures

pub returns-then-is_refused : goal.returns-then-is_refused
returns-then-is_refused g c =
    let within : c.loop-place.place ≤ c.args.self.now.dst.now.size = (let t = c.loop-place-test.true in let e = c.size-place-end.ensures in omega arith) in (
      λ h. cc,
      λ each. absurd (refused (g.M.RefTest.test c.args.self.now.refs.now) c.args.self.now.src.now c.args.self.now.dst.now c.law.ensures.automaton c.law.ensures.reads c.law-2.ensures.automaton c.law-2.ensures.reads
          c.loop-place.place c.loop-place.layer within c.loop-place.invariant (sym c.is_refused.ensures ∙ c.if-is_refused.true) each),
    )

pub loop-place-preserved : goal.loop-place-preserved
loop-place-preserved g c =
    next_layer (g.M.RefTest.test c.args.self.now.refs.now) c.args.self.now.src.now c.args.self.now.dst.now c.law.ensures.automaton c.law.ensures.reads c.law-2.ensures.automaton c.law-2.ensures.reads
    c.loop-place.place c.loop-place.layer c.in_ok-layer-2.layer c.loop-place.invariant c.in_ok-layer-2.ensures

pub returns : goal.returns
returns g c =
    let end : c.loop-place.place ≡ c.args.self.now.dst.now.size = (let t = c.loop-place-test.false in let b = c.loop-place.auto.place-end in let e = c.size-place-end.ensures in omega arith) in
    answered (g.M.RefTest.test c.args.self.now.refs.now) c.args.self.now.src.now c.args.self.now.dst.now c.law.ensures.automaton c.law.ensures.reads c.law-2.ensures.automaton c.law-2.ensures.reads
    c.loop-place.layer c.loop-place.place c.is_refused-2.result end c.loop-place.invariant c.is_refused-2.ensures

pub advance-requires : goal.advance-requires
advance-requires g c = record { states = λ o m. (c.loop-place.invariant.sound o m).between }
