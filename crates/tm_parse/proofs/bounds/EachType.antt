-- What is kept of each outermost type is kept of each type that a file has as a field or in a question.
use Rattle.std.proofs.Common.{ℕ, Bool, Option, Some, None, IfSome, List, [], All}
use Rattle.std.proofs.lemmas.List.Elements.{All-nil, All-cons}
use Rattle.tm_parse.proofs.bounds.FileKeeping.{KeptItem, definitions_and_questions, kept_of_file}
use Rattle.tm_parse.proofs.bounds.KeptByParts.{Keeps, skipped, to_keeps, seq_keeps, or_keeps, mark_keeps, listed_keeps, listed1_keeps, optional_keeps}
use Rattle.tm_parse.specs.Accepted.{IsFile}
use Rattle.tm_parse.specs.Bounds.{EachType}
use Rattle.tm_parse.specs.Combinators.{counts_as}
use Rattle.tm_parse.specs.Definitions.{field, place, variant_field, variant_place, variant_fields, variant, variant_of, single, struct_body, union_body, enum_body, headed_any, together, definition}
use Rattle.tm_parse.specs.Events.{a_type}
use Rattle.tm_parse.specs.Files.{question}
use Rattle.tm_parse.specs.Types.{or_none, behind_paren, plain_type, type_part, read_none, SpellsType}
use Rattle.tm_parse.specs.declared.parsed.Decl.{Decl}
use Rattle.tm_parse.specs.declared.parsed.DeclAsk.{DeclAsk}
use Rattle.tm_parse.specs.declared.parsed.DeclField.{DeclField}
use Rattle.tm_parse.specs.declared.parsed.DeclRepr.{DeclRepr}
use Rattle.tm_parse.specs.declared.parsed.DeclVariant.{DeclVariant}
use Rattle.tm_parse.specs.declared.parsed.Expr.{Expr}
use Rattle.tm_parse.specs.declared.parsed.Parsed.{Parsed}
use Rattle.tm_parse.specs.declared.terminal.Terminal.{Terminal}

-- what is kept of an outermost type; behind `pub`, and behind `pub (`, it is spelled without its front
pub record KeepsTypes (Is : Terminal → Type 0) (K : Expr → Type 0) : Type 0 where
  pub whole : (levels : ℕ) → Keeps Is K (SpellsType 0 levels)
  pub plain : (levels : ℕ) → Keeps Is K (counts_as (a_type 0) (plain_type (type_part [] (SpellsType 1 levels) read_none))).spells
  pub behind : (levels : ℕ) → Keeps Is K (counts_as (a_type 0) (behind_paren (type_part [] (SpellsType 1 levels) read_none))).spells

module _ (K : Expr → Type 0) where
  abbrev OfField : DeclField → Type 0
  OfField field = K field.ty

  abbrev OfVariants : List DeclVariant → Type 0
  OfVariants variants = All (λ v. All OfField v.fields) variants

  abbrev OfDefinition : Decl → Type 0
  OfDefinition definition = OfVariants definition.variants

  abbrev OfQuestion : DeclAsk → Type 0
  OfQuestion question = K question.src × K question.dst

  of-single : (fields : List DeclField) → All OfField fields → OfVariants (single fields)
  of-single fields h = All-cons (λ v. All OfField v.fields) _ [] h (All-nil (λ v. All OfField v.fields))

  of-none : (fields : Option (List DeclField)) → IfSome fields (All OfField) → All OfField (or_none fields)
  of-none None h = All-nil OfField
  of-none (Some fields) h = h

  of-variant : (name : Terminal) (fields : Option (List DeclField)) (d : Option (Bool × ℕ)) → IfSome fields (All OfField) → All OfField (variant_of name fields d).fields
  of-variant name fields None h = of-none fields h
  of-variant name fields (Some d) h = of-none fields h

  module _ (Is : Terminal → Type 0) (keeps : KeepsTypes Is K) (levels : ℕ) where
    of-field : Keeps Is OfField (field levels).spells
    of-field = mark_keeps (to_keeps (seq_keeps skipped (seq_keeps skipped (seq_keeps skipped (keeps.whole levels)))) (λ v k. k.1.1.1))

    of-place : Keeps Is OfField (place levels).spells
    of-place = mark_keeps (or_keeps (to_keeps (keeps.whole levels) (λ v k. k)) (to_keeps (seq_keeps skipped
        (or_keeps (to_keeps (keeps.plain levels) (λ v k. k)) (to_keeps {L = OfField} (seq_keeps skipped
        (or_keeps (to_keeps {L = OfField} (seq_keeps skipped (seq_keeps skipped (keeps.whole levels))) (λ v k. k.1.1)) (to_keeps (keeps.behind levels) (λ v k. k)))) (λ v k. k.1)))) (λ v k. k.1)))

    of-variant-field : Keeps Is OfField (variant_field levels).spells
    of-variant-field = mark_keeps (to_keeps (seq_keeps skipped (seq_keeps skipped (keeps.whole levels))) (λ v k. k.1.1))

    of-variant-place : Keeps Is OfField (variant_place levels).spells
    of-variant-place = mark_keeps (to_keeps (keeps.whole levels) (λ v k. k))

    of-variant-fields : Keeps Is (All OfField) (variant_fields levels).spells
    of-variant-fields = or_keeps (to_keeps (seq_keeps skipped (seq_keeps (listed_keeps of-variant-field) skipped)) (λ v k. k.1.0))
        (to_keeps (seq_keeps skipped (seq_keeps (listed_keeps of-variant-place) skipped)) (λ v k. k.1.0))

    of-each-variant : Keeps Is (λ v. All OfField v.fields) (variant levels).spells
    of-each-variant = mark_keeps (to_keeps (seq_keeps skipped (seq_keeps (optional_keeps of-variant-fields) skipped)) (λ v k. of-variant v.0 v.1.0 v.1.1 k.1.0))

    of-struct : Keeps Is OfVariants (struct_body levels).spells
    of-struct = or_keeps (to_keeps skipped (λ v k. of-single [] (All-nil OfField)))
        (or_keeps (to_keeps (to_keeps {L = All OfField} (seq_keeps skipped (seq_keeps (listed_keeps of-field) skipped)) (λ v k. k.1.0)) of-single)
        (to_keeps (seq_keeps (to_keeps {L = All OfField} (seq_keeps skipped (seq_keeps (listed_keeps of-place) skipped)) (λ v k. k.1.0)) skipped) (λ v k. of-single v.0 k.0)))

    of-union : Keeps Is OfVariants (union_body levels).spells
    of-union = to_keeps (to_keeps {L = All OfField} (seq_keeps skipped (seq_keeps (listed1_keeps of-field) skipped)) (λ v k. k.1.0)) of-single

    of-enum : Keeps Is OfVariants (enum_body levels).spells
    of-enum = to_keeps (seq_keeps skipped (seq_keeps (listed_keeps of-each-variant) skipped)) (λ v k. k.1.0)

    abbrev Headed : (List DeclRepr → Decl) → Type 0
    Headed d = (reprs : List DeclRepr) → OfDefinition (d reprs)

    of-headed : Keeps Is Headed (headed_any levels).spells
    of-headed = or_keeps (mark_keeps (to_keeps (seq_keeps skipped (seq_keeps skipped (seq_keeps skipped of-struct))) (λ v k reprs. k.1.1.1)))
        (or_keeps (mark_keeps (to_keeps (seq_keeps skipped (seq_keeps skipped (seq_keeps skipped of-union))) (λ v k reprs. k.1.1.1)))
        (mark_keeps (to_keeps (seq_keeps skipped (seq_keeps skipped (seq_keeps skipped of-enum))) (λ v k reprs. k.1.1.1))))

    of-definition : Keeps Is OfDefinition (definition levels).spells
    of-definition = to_keeps (seq_keeps skipped (seq_keeps skipped of-headed)) (λ v k. k.1.1 (together v.0))

  pub each_type : (Is : Terminal → Type 0) → KeepsTypes Is K → (v : Parsed) (ts : List Terminal) → IsFile v ts → All Is ts → EachType K v
  each_type Is keeps v ts f h =
      let kept = kept_of_file (λ t. Unit {0}) (λ b. Unit {0}) OfDefinition OfQuestion Is (λ levels. definitions_and_questions OfDefinition OfQuestion Is levels (of-definition Is keeps levels) (asked levels)) v ts f h in
      record { fields = kept.definitions; questions = kept.questions }
    where
      asked : (levels : ℕ) → Keeps Is (λ i. KeptItem (λ t. Unit {0}) (λ b. Unit {0}) OfDefinition OfQuestion i) (question levels).spells
      asked levels = to_keeps (seq_keeps skipped (seq_keeps (keeps.whole levels) (seq_keeps skipped (seq_keeps (keeps.whole levels) skipped)))) (λ v k. (k.1.0, k.1.1.1.0))
