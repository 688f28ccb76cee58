use Rattle.std.proofs.Common.{ap, ◌∙◌, Bool, ◌||◌}
use Rattle.tm_base.specs.Worlds.{tables_of}
use Rattle.tm_refs.specs.Leaves.{leaf_of}
use Rattle.tm_refs.proofs.AddedLemmas.{blank}
use Rattle.tm_refs.proofs.leaves.leaves_of.Goals as goal

pub returns : goal.returns
returns c = λ x. c.add_type.ensures.each x ∙ ap (λ (b : Bool). b || leaf_of (tables_of c.args.world.now) c.args.g.now x) (blank x)
