use Rattle.std.proofs.Common.{◌∙◌, sym, ap, List, ℕ}
use Rattle.tm_base.specs.Transmutes.{is_itself}
use Rattle.tm_auto.specs.Automata.{reached}
use Rattle.tm_auto.specs.Sets.{next}
use Rattle.tm_walk.proofs.ExpandLemmas.{step_is}
use Rattle.tm_walk.proofs.ChainLemmas.{reached_more}
use Rattle.tm_walk.proofs.reading.Reading.read.Goals as goal

pub invariant_of-self-2 : goal.invariant_of-self-2
invariant_of-self-2 c =
    let src = c.args.self.now.src.now in
    let set = step_is is_itself src _ _ _ c.in_ok-set.ensures.step in
    record {
      reached = set
          ∙ ap (λ (z : List ℕ). next is_itself src.edges z c.of.result) c.args.self.now.reached
          ∙ ap (λ z. next is_itself src.edges (reached is_itself src c.args.self.now.word) z) c.of.ensures
          ∙ sym (reached_more is_itself src c.args.self.now.word c.args.cell)
          ∙ ap (reached is_itself src) (sym c.in_ok-add.ensures.added);
      states = c.in_ok-set.ensures.states;
    }
