use Rattle.std.proofs.Common.{◌≡◌, sym, ap, ◌∙◌, subst, Option, Some, take, slice_get, IfOk}
use Rattle.std.specs.Option.{option_copied}
use Rattle.std.proofs.lemmas.Result.{IfOk-weaker}
use Rattle.tm_base.specs.declared.answer.RefFault.{RefFault}
use Rattle.tm_base.specs.declared.answer.Rule.{Rule}
use Rattle.tm_base.specs.declared.cell.Cell.{Cell}
use Rattle.tm_base.specs.declared.cell.Cell.TheVariants.{Byte, Uninit, Ptr}
use Rattle.tm_base.specs.declared.cell.RefId.{RefId}
use Rattle.tm_base.specs.declared.ask.Ask.{Ask}
use Rattle.tm_base.specs.declared.world.World.{World}
use Rattle.tm_base.specs.Cells.{Word}
use Rattle.tm_base.specs.Worlds.{tables_of}
use Rattle.tm_witness.specs.Refused.{IsRefused, IsRuleAt}
use Rattle.tm_auto.specs.Automata.{reached}
use Rattle.tm_refs.specs.Solved.{compatible_in}
use Rattle.tm_witness.specs.GoingOn.{IsByteRule, IsLeastOpen, reference_answer}
use Rattle.tm_witness.proofs.RefusedLemmas.{uninit-rule, byte-rule, reference-rule}
use Rattle.tm_witness.proofs.refusal.rule_at.Goals as goal

pub returns-in_ok-byte_rule-in-Byte : goal.returns-in_ok-byte_rule-in-Byte
returns-in_ok-byte_rule-in-Byte c =
    let at : slice_get c.args.word.now c.args.offset ≡ Some (Byte c.in-Byte.field-0) = sym c.get.ensures.item ∙ ap option_copied c.in-Some.is ∙ ap (λ (d : Cell). Some d) c.in-Byte.is in
    let by_byte = subst (λ (u : Word). IsByteRule c.args.dst.now (reached (compatible_in c.args.compat.now) c.args.dst.now (take c.args.offset u)) c.in_ok-byte_rule-in-Byte.field-0) c.as_slice.ensures c.in_ok-byte_rule-in-Byte.ensures in
    record { rule = λ world ask h. byte-rule world ask c.args.dst.now c.args.compat.now c.args.source_size c.args.word.now c.args.offset h c.if-source_size-offset.false c.law.ensures.automaton c.law.ensures.reads c.in-Byte.field-0 at c.in_ok-byte_rule-in-Byte.field-0 by_byte }

pub returns-in-Uninit : goal.returns-in-Uninit
returns-in-Uninit c =
    let at : slice_get c.args.word.now c.args.offset ≡ Some Uninit = sym c.get.ensures.item ∙ ap option_copied c.in-Some.is ∙ ap (λ (d : Cell). Some d) c.in-Uninit.is in
    record { rule = λ world ask h. uninit-rule world ask c.args.dst.now c.args.compat.now c.args.source_size c.args.word.now c.args.offset h c.if-source_size-offset.false at }

pub returns-in-Ptr : goal.returns-in-Ptr
returns-in-Ptr c =
    let at : slice_get c.args.word.now c.args.offset ≡ Some (Ptr c.in-Ptr.source c.in-Ptr.field-1) = sym c.get.ensures.item ∙ ap option_copied c.in-Some.is ∙ ap (λ (d : Cell). Some d) c.in-Ptr.is in
    let found = subst (λ (u : Word). IfOk c.reference_rule.result (λ answer. (least : Option RefId) × IsLeastOpen c.args.dst.now (reached (compatible_in c.args.compat.now) c.args.dst.now (take c.args.offset u)) least × (answer ≡ reference_answer c.args.compat.now c.in-Ptr.source least))) c.as_slice.ensures c.reference_rule.ensures in
    record { rule = IfOk-weaker c.reference_rule.result _ (λ (answer : Rule × Option RefFault). (world : World) (ask : Ask) → IsRefused world ask c.args.dst.now c.args.compat.now c.args.source_size c.args.word.now c.args.offset → IsRuleAt (tables_of world) ask c.args.word.now c.args.offset answer.0 answer.1) (λ answer (least, is_least, e) world ask h. reference-rule world ask c.args.dst.now c.args.compat.now c.args.source_size c.args.word.now c.args.offset h c.if-source_size-offset.false c.law.ensures.automaton c.law.ensures.reads c.in-Ptr.source c.in-Ptr.field-1 at least is_least answer e) found }
