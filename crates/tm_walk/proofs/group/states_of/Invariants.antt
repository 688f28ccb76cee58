use Rattle.std.proofs.Common.{◌≡◌, [], drop}
use Rattle.tm_walk.specs.Obligations.{with_states}
use Rattle.tm_walk.proofs.group.states_of.Given as goal

abbrev pub invariant-loop-obligation : goal.invariant-loop-obligation
invariant-loop-obligation l = with_states (drop l.obligation-index l.obligations) l.states ≡ with_states l.obligations []
