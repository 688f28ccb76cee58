use Rattle.std.proofs.Common.{append_assoc, refl, ◌∙◌}
use Rattle.std.proofs.lemmas.Result.{IfOk-weaker}
use Rattle.tm_gen.proofs.fields.variant.Goals as goal

pub returns-clause-text : goal.returns-clause-text
returns-clause-text c = IfOk-weaker c.format.result _ _ (λ line e. e ∙ simp (append_assoc, c.draw.ensures.number) refl) c.format.ensures.ok
