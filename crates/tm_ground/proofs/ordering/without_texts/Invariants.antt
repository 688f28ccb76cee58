use Rattle.std.proofs.Common.{◌≡◌, map}
use Rattle.tm_ground.proofs.ordering.without_texts.Given as goal

-- the types so far are the first ones'
abbrev pub invariant-loop-texted : goal.invariant-loop-texted
invariant-loop-texted l = l.types ≡ map (λ texted. texted.ty) l.yielded
