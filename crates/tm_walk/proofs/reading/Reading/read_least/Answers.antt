use Rattle.std.proofs.Common.{◌∙◌, sym, ap, List, ℕ}
use Rattle.tm_base.specs.Transmutes.{is_itself}
use Rattle.tm_auto.specs.Automata.{reached}
use Rattle.tm_auto.specs.Sets.{next, symbol_of}
use Rattle.tm_walk.proofs.ExpandLemmas.{step_is}
use Rattle.tm_walk.proofs.ChainLemmas.{reached_more}
use Rattle.tm_walk.proofs.reading.Reading.read_least.Goals as goal

pub invariant_of-self-2 : goal.invariant_of-self-2
invariant_of-self-2 c =
    let src = c.args.self.now.src.now in
    let step = c.in_ok-step.step in
    record {
      reached = step_is is_itself src _ _ _ c.in_ok-step.ensures.set
          ∙ ap (λ (z : List ℕ). next is_itself src.edges z (symbol_of step.cell)) c.args.self.now.reached
          ∙ sym (reached_more is_itself src c.args.self.now.word step.cell)
          ∙ ap (reached is_itself src) (sym c.in_ok-add.ensures.added);
      states = c.in_ok-step.ensures.states;
    }

pub returns-clause-word : goal.returns-clause-word
returns-clause-word c = record { cell = c.in_ok-step.step.cell; least = c.in_ok-step.ensures.cell; longer = c.in_ok-add.ensures.added }
