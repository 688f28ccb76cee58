use Rattle.std.proofs.Common.{refl, subst, List, ℕ, Some, None}
use Rattle.tm_witness.specs.GoingOn.{IsLeastOpen}
use Rattle.tm_witness.proofs.refusal.reference_rule.Goals as goal

pub returns-in-None : goal.returns-in-None
returns-in-None c = (None, subst (λ (states : List ℕ). IsLeastOpen c.args.dst.now states None) c.in_ok-states.ensures.reached c.in-None.ensures, refl)

pub returns : goal.returns
returns c = (Some c.in-Some.target, subst (λ (states : List ℕ). IsLeastOpen c.args.dst.now states (Some c.in-Some.target)) c.in_ok-states.ensures.reached c.in-Some.ensures, cc)
