use Rattle.std.proofs.Common.{inl, inr, subst, sym}
use Rattle.tm_base.specs.Worlds.{tables_of}
use Rattle.tm_walk.proofs.NextLayerLemmas.{on_ok}
use Rattle.tm_refute.specs.Asking.{ProofAsksToo}
use Rattle.tm_refute.specs.declared.refutation.Proof.{Proof}
use Rattle.tm_refute.proofs.refuting.maker.Maker.ask_proof.Goals as goal

pub returns-in-Local : goal.returns-in-Local
returns-in-Local c =
    subst (λ (proof : Proof). ProofAsksToo (tables_of c.args.self.now.world.now) c.args.self.now.assume c.args.depth proof c.args.s.now c.args.t.now c.args.asked.now c.args.asked.now)
    (sym c.in-Local.is)
    (record { each = λ r leaf. (λ asked. inl asked, λ asks. elim asks [ inl asked ↦ asked | inr (other, none) ↦ absurd none ]) })

pub returns-in-Forward : goal.returns-in-Forward
returns-in-Forward c =
    on_ok c.ask.result
    (λ asks. subst (λ (proof : Proof). ProofAsksToo (tables_of c.args.self.now.world.now) c.args.self.now.assume c.args.depth proof c.args.s.now c.args.t.now c.args.asked.now c.ask.new.asked)
    (sym c.in-Forward.is) (record { each = asks.each }))
    c.ask.ensures

pub returns-in-Reverse : goal.returns-in-Reverse
returns-in-Reverse c =
    on_ok c.ask-in-Reverse.result
    (λ asks. subst (λ (proof : Proof). ProofAsksToo (tables_of c.args.self.now.world.now) c.args.self.now.assume c.args.depth proof c.args.s.now c.args.t.now c.args.asked.now c.ask-in-Reverse.new.asked)
    (sym c.in-Reverse.is) (record { each = asks.each }))
    c.ask-in-Reverse.ensures
