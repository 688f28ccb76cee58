-- Each definition has the variants of its kind.
use Rattle.std.proofs.Common.{ℕ, ◌<◌, refl, Bool, Option, Some, None, IsSome, List, [], length, arith}
use Rattle.tm_base.specs.declared.definition.Kind.TheVariants as kind
use Rattle.tm_parse.proofs.bounds.KeptByParts.{Keeps, skipped, listed_keeps, to_keeps, seq_keeps, or_keeps, mark_keeps}
use Rattle.tm_parse.specs.Bounds.{AreVariantsOf, HasItsVariants}
use Rattle.tm_parse.specs.Definitions.{field, variant, variant_of, struct_body, union_body, enum_body, headed_any, together, definition}
use Rattle.tm_parse.specs.Shapes.{and_others, listed1}
use Rattle.tm_parse.specs.declared.parsed.Decl.{Decl}
use Rattle.tm_parse.specs.declared.parsed.DeclField.{DeclField}
use Rattle.tm_parse.specs.declared.parsed.DeclRepr.{DeclRepr}
use Rattle.tm_parse.specs.declared.terminal.Terminal.{Terminal}

some-others : (v : DeclField × Option (Terminal × List DeclField)) → 0 < length (and_others v)
some-others (v, None) = omega arith
some-others (v, Some others) = omega arith

variant-name : (name : Terminal) (fields : Option (List DeclField)) (d : Option (Bool × ℕ)) → IsSome (variant_of name fields d).name
variant-name name fields None = refl
variant-name name fields (Some d) = refl

abbrev Headed : (List DeclRepr → Decl) → Type 0
Headed d = (reprs : List DeclRepr) → HasItsVariants (d reprs)

module _ (Is : Terminal → Type 0) (levels : ℕ) where
  struct-variants : Keeps Is (AreVariantsOf kind.Struct) (struct_body levels).spells
  struct-variants = or_keeps (to_keeps skipped (λ v k. ([], refl))) (or_keeps (to_keeps skipped (λ v k. (v, refl))) (to_keeps skipped (λ v k. (v.0, refl))))

  some-fields : Keeps Is (λ fields. 0 < length fields) (listed1 (field levels)).spells
  some-fields = to_keeps skipped (λ v k. some-others v)

  union-variants : Keeps Is (AreVariantsOf kind.Union) (union_body levels).spells
  union-variants = to_keeps (to_keeps {L = λ fields. 0 < length fields} (seq_keeps skipped (seq_keeps some-fields skipped)) (λ v k. k.1.0)) (λ v k. (v, refl, k))

  named-variant : Keeps Is (λ v. IsSome v.name) (variant levels).spells
  named-variant = mark_keeps (to_keeps skipped (λ v k. variant-name v.0 v.1.0 v.1.1))

  enum-variants : Keeps Is (AreVariantsOf kind.Enum) (enum_body levels).spells
  enum-variants = to_keeps (seq_keeps skipped (seq_keeps (listed_keeps named-variant) skipped)) (λ v k. k.1.0)

  headed-variants : Keeps Is Headed (headed_any levels).spells
  headed-variants = or_keeps (mark_keeps (to_keeps (seq_keeps skipped (seq_keeps skipped (seq_keeps skipped struct-variants))) (λ v k reprs. record { variants = k.1.1.1 })))
      (or_keeps (mark_keeps (to_keeps (seq_keeps skipped (seq_keeps skipped (seq_keeps skipped union-variants))) (λ v k reprs. record { variants = k.1.1.1 })))
      (mark_keeps (to_keeps (seq_keeps skipped (seq_keeps skipped (seq_keeps skipped enum-variants))) (λ v k reprs. record { variants = k.1.1.1 }))))

  pub definition_variants : Keeps Is HasItsVariants (definition levels).spells
  definition_variants = to_keeps (seq_keeps skipped (seq_keeps skipped headed-variants)) (λ v k. k.1.1 (together v.0))
