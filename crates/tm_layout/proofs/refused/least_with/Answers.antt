use Rattle.std.proofs.Common.{sym, subst, [], ◌∷◌, ◌++◌}
use Rattle.tm_base.specs.Worlds.{tables_of}
use Rattle.tm_layout.specs.Least.{IsLeast, IsLeastAnswer}
use Rattle.tm_layout.proofs.LeastLemmas.{least-sound, least-first, least-lesser}
use Rattle.tm_layout.proofs.refused.least_with.Goals as goal

pub returns-in-None : goal.returns-in-None
returns-in-None c = λ types old. least-sound (tables_of c.args.world.now) types c.args.g.now c.args.least (sym (c.in-None.ensures.fault (tables_of c.args.world.now) c.requires.layouts_are c.requires.type_is)) old

pub with_text-requires : goal.with_text-requires
with_text-requires c = sym (c.in-Some.ensures.fault (tables_of c.args.world.now) c.requires.layouts_are c.requires.type_is)

pub returns-in-None-least : goal.returns-in-None-least
returns-in-None-least c = λ types old.
    least-first (tables_of c.args.world.now) types c.args.g.now c.in_ok-refused.refused
    (subst (IsLeastAnswer (tables_of c.args.world.now) types) c.in-None-least.is old)
    c.in_ok-refused.ensures.is c.in_ok-refused.ensures.found

pub returns-in-Some-least : goal.returns-in-Some-least
returns-in-Some-least c = λ types old.
    subst (IsLeast (tables_of c.args.world.now) (types ++ c.args.g.now ∷ [])) (sym c.lesser.ensures)
    (least-lesser (tables_of c.args.world.now) types c.args.g.now c.in-Some-least.other c.in_ok-refused.refused
    (subst (IsLeastAnswer (tables_of c.args.world.now) types) c.in-Some-least.is old)
    c.in_ok-refused.ensures.is c.in_ok-refused.ensures.found)
