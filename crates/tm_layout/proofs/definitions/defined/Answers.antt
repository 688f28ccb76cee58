use Rattle.std.proofs.Common.{ap, ◌∙◌, ◌||◌}
use Rattle.std.specs.Option.{is_some, option_or}
use Rattle.tm_layout.specs.Capped.{first_fault}
use Rattle.tm_layout.specs.Defined.{layout_fault_in, nullable_in, own_fault_in}
use Rattle.tm_layout.specs.Together.{variants_together}
use Rattle.tm_layout.proofs.DefinitionLemmas.{in_form}
use Rattle.tm_layout.proofs.NamedLemmas.{named-facts}
use Rattle.tm_layout.proofs.definitions.defined.Goals as goal

pub returns : goal.returns
returns c id variants h k =
    let kind = c.args.def.now.kind in
    let repr = c.args.def.now.repr in
    let facts = c.args.parts.now in
    let all = c.together-fields.ensures in
    let weight = c.weight_in-weight.result in
    let asked = c.layout_fault-asked.ensures ∙ ap (λ p. layout_fault_in kind repr facts p.aligned weight) all in
    named-facts c.args.profile id kind repr c.args.def.now.variants variants facts _ (in_form c.args.profile c.args.def.now c.requires) h k (record {
      fault = c.first_fault-fault.ensures ∙ ap (λ x. first_fault x c.together-fields.result.refusal c.layout_fault-asked.result) c.own_fault.ensures
          ∙ ap (λ p. first_fault (own_fault_in c.args.def.now) p.refusal c.layout_fault-asked.result) all
          ∙ ap (λ x. first_fault (own_fault_in c.args.def.now) (variants_together facts).refusal x) asked;
      refusal = c.or.ensures ∙ ap (λ p. option_or c.first_fault-fault.result p.refusal) all;
      nullable = c.is_nullable.ensures ∙ ap (λ p. nullable_in kind repr p.nullable) all;
      aligned = ap (λ b. b || c.together-fields.result.aligned) c.is_some.ensures ∙ ap (λ p. is_some repr.align || p.aligned) all;
      interior = ap (λ p. p.interior) all;
      size = c.layout-layout.ensures.size;
      align = c.layout-layout.ensures.align;
      weight = c.weight_in-weight.ensures;
    })
