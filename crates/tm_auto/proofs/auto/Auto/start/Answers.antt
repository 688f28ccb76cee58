use Rattle.std.proofs.Common.{subst, sym, ◌∙◌, ap}
use Rattle.std.proofs.lemmas.Result.{IfOk-weaker}
use Rattle.tm_auto.specs.Automata.{AreStates, Automaton}
use Rattle.tm_auto.proofs.auto.Auto.start.Goals as goal

pub returns-clause-states : goal.returns-clause-states
returns-clause-states c =
    IfOk-weaker c.copy.result _ _ (λ set same. subst (AreStates c.args.self.now) (sym (same ∙ ap (λ (auto : Automaton). auto.starts) c.self.view_is)) (rw (← c.self.view_is) c.self.invariant.below)) c.copy.ensures
