use Rattle.std.proofs.Common.{ℕ, ◌+◌, refl, sym, ap, ◌∙◌, ◌||◌}
use Rattle.tm_layout.specs.Capped.{capped, first_fault, weight_fault}
use Rattle.tm_layout.proofs.FactLemmas.{wrapped-facts}
use Rattle.tm_layout.proofs.wrappers.wrapped.Goals as goal

pub returns-then-is_cell : goal.returns-then-is_cell
returns-then-is_cell c t known =
    wrapped-facts c.args.wrapper t c.args.argument _ known
    (c.first_fault-fault.ensures ∙ ap (λ x. first_fault c.wrapper_fault-own.result c.args.argument.refusal x) c.weight_fault.ensures
    ∙ ap (λ x. first_fault x c.args.argument.refusal (weight_fault c.saturating_add-weight.result)) c.wrapper_fault-own.ensures)
    c.or.ensures refl refl (c.if-is_cell.true ∙ ap (λ b. b || c.args.argument.interior) (sym c.if-is_cell.true ∙ c.is_cell.ensures)) refl refl
    (c.saturating_add-weight.ensures ∙ ap (λ (k : ℕ). capped (c.args.argument.weight + k)) c.added_weight.ensures)

pub returns-else-is_cell : goal.returns-else-is_cell
returns-else-is_cell c t known =
    wrapped-facts c.args.wrapper t c.args.argument _ known
    (c.first_fault-fault.ensures ∙ ap (λ x. first_fault c.wrapper_fault-own.result c.args.argument.refusal x) c.weight_fault.ensures
    ∙ ap (λ x. first_fault x c.args.argument.refusal (weight_fault c.saturating_add-weight.result)) c.wrapper_fault-own.ensures)
    c.or.ensures refl refl (ap (λ b. b || c.args.argument.interior) (sym c.if-is_cell.false ∙ c.is_cell.ensures)) refl refl
    (c.saturating_add-weight.ensures ∙ ap (λ (k : ℕ). capped (c.args.argument.weight + k)) c.added_weight.ensures)
