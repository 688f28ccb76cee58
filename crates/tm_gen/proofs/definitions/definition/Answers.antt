use Rattle.std.proofs.Common.{append_assoc, refl, ◌∙◌}
use Rattle.std.proofs.lemmas.Result.{IfOk-weaker}
use Rattle.tm_gen.proofs.definitions.definition.Goals as goal

pub returns-clause-text : goal.returns-clause-text
returns-clause-text c = IfOk-weaker c.format.result _ _ (λ line e. e ∙ simp (append_assoc, c.in_ok-members.ensures.text, c.repr.ensures, c.word.ensures, c.kind_at-kind.ensures, c.draw.ensures.number, c.draw.ensures.state, c.draw-count.ensures.number, c.draw-count.ensures.state) refl) c.format.ensures.ok
