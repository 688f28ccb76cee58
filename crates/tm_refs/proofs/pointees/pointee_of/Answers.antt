use Rattle.std.proofs.Common.{◌∙◌, sym}
use Rattle.tm_base.specs.Worlds.{tables_of}
use Rattle.tm_refs.proofs.CastLemmas.{unrefused}
use Rattle.tm_refs.proofs.pointees.pointee_of.Goals as goal

pub automaton_of-requires-clause-judged : goal.automaton_of-requires-clause-judged
automaton_of-requires-clause-judged c =
    unrefused (tables_of c.args.world.now) c.args.g.now c.in_ok-first_refused.field-0 c.in_ok-first_refused.ensures (sym c.is_some.ensures ∙ c.if-is_some.false)

pub automaton_of-requires-2-clause-judged : goal.automaton_of-requires-2-clause-judged
automaton_of-requires-2-clause-judged c =
    unrefused (tables_of c.args.world.now) c.args.g.now c.in_ok-first_refused.field-0 c.in_ok-first_refused.ensures (sym c.is_some.ensures ∙ c.if-is_some.false)
