use Rattle.std.proofs.Common.{append_assoc, refl, ◌∙◌}
use Rattle.std.proofs.lemmas.Result.{IfOk-weaker}
use Rattle.tm_gen.proofs.questions.question.Goals as goal

pub returns-clause-text : goal.returns-clause-text
returns-clause-text c = IfOk-weaker c.format.result _ _ (λ line e. e ∙ simp (append_assoc, c.draw-source.ensures.number, c.draw-source.ensures.state, c.draw-target.ensures.number, c.draw-target.ensures.state, c.draw.ensures.number, c.assumed-assumed.ensures) refl) c.format.ensures.ok
