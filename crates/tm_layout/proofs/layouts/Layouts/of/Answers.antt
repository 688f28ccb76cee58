use Rattle.std.proofs.Common.{◌∙◌, ap, sym}
use Rattle.std.specs.Option.{is_some}
use Rattle.tm_base.specs.Tables.{expanded_in}
use Rattle.tm_layout.proofs.RefusalLemmas.{refused-exactly}
use Rattle.tm_layout.proofs.layouts.Layouts.of.Goals as goal

pub returns-in-Some : goal.returns-in-Some
returns-in-Some c = record {
  answer = λ tables made over.
      let facts = c.facts-facts.ensures tables made over in
      let refusal = sym facts.refusal ∙ c.in-Some.is in
      (sym (refused-exactly (expanded_in tables c.args.g.now)) ∙ ap is_some refusal, refusal);
}

pub returns-in-None : goal.returns-in-None
returns-in-None c = record {
  answer = λ tables made over.
      let facts = c.facts-facts.ensures tables made over in
      let refusal = sym facts.refusal ∙ c.in-None.is in
      let layout = facts.layout refusal in
      (sym (refused-exactly (expanded_in tables c.args.g.now)) ∙ ap is_some refusal, layout.size, layout.align);
}
