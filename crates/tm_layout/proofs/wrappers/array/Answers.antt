use Rattle.std.proofs.Common.{ℕ, max, refl, ap, ◌∙◌, None}
use Rattle.tm_layout.specs.Capped.{first_fault}
use Rattle.tm_layout.proofs.FactLemmas.{array-facts}
use Rattle.tm_layout.proofs.wrappers.array.Goals as goal

pub returns : goal.returns
returns c t known =
    array-facts t c.args.length c.args.element _ known
    (c.first_fault-fault.ensures ∙ ap (λ x. first_fault None c.args.element.refusal x) c.weight_fault.ensures)
    c.or.ensures refl refl refl c.saturating_mul-2.ensures refl (c.max-weight.ensures ∙ ap (λ (k : ℕ). max k 1) c.saturating_mul.ensures)
