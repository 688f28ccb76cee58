-- The laws of the rules of definitions. Each choice and each sequence is settled by one terminal.
use Rattle.std.proofs.Common.{refl, [], ◌∷◌}
use Rattle.tm_base.specs.declared.definition.Kind.TheVariants as kind
use Rattle.tm_parse.proofs.grammar.Choices.{to_laws, or_laws}
use Rattle.tm_parse.proofs.grammar.Lawful.{Laws}
use Rattle.tm_parse.proofs.grammar.LifetimeLaws.{IsTold, lifetimes_then_laws}
use Rattle.tm_parse.proofs.grammar.Marks.{mark_laws}
use Rattle.tm_parse.proofs.grammar.Pairs.{seq_laws}
use Rattle.tm_parse.proofs.grammar.ShapeLaws.{any_laws, the_laws, optional_laws, many_laws, listed_laws, listed1_laws, between_laws}
use Rattle.tm_parse.proofs.grammar.TypeForms.{definition_name_laws, behind_laws, plain_laws}
use Rattle.tm_parse.proofs.grammar.TypeLaws.{tells_types, type_laws}
use Rattle.tm_parse.specs.Events.{a_definition, a_parameter, a_type_parameter, a_field, a_variant, a_type}
use Rattle.tm_parse.specs.Shapes.{any}
use Rattle.tm_parse.specs.Definitions.{in_parens, repr_item, repr, derive, attribute, narrower, visibility, field, behind_pub, place, variant_field, variant_place, variant_fields, discriminant, variant, parameter, type_parameter, parameters, struct_body, union_body, enum_body, headed, definition}
use Rattle.tm_parse.specs.Types.{integer, scalar, alias, generic, number, names, type_first, SpellsType, read_type}
use Rattle.tm_parse.specs.declared.class.Class.TheVariants as c

name_laws : Laws (λ n. any names)
name_laws = any_laws integer (scalar ∷ alias ∷ generic ∷ c.NonZero ∷ c.Foreign ∷ c.Name ∷ c.Align ∷ c.Alignment ∷ c.Ask ∷ c.Assume ∷ c.C ∷ c.Derive ∷ c.Declare ∷ c.Lifetimes ∷ c.Outlives ∷ c.Packed ∷ c.Repr ∷ c.Safety ∷ c.Transparent ∷ c.Union ∷ c.Validity ∷ [])

in-parens-laws : Laws (λ n. in_parens)
in-parens-laws = between_laws c.OpenParen (the_laws number) c.CloseParen refl

repr-item-laws : Laws (λ n. repr_item)
repr-item-laws = or_laws (to_laws _ (the_laws c.C)) (or_laws (to_laws _ (the_laws c.Transparent)) (or_laws (to_laws _ (the_laws integer))
    (or_laws (to_laws _ (seq_laws (the_laws c.Packed) (optional_laws in-parens-laws refl) refl)) (to_laws _ (seq_laws (the_laws c.Align) in-parens-laws refl)) refl refl) refl refl) refl refl) refl refl

repr-laws : Laws (λ n. repr)
repr-laws = to_laws _ (seq_laws (the_laws c.Repr) (between_laws c.OpenParen (listed1_laws repr-item-laws refl refl refl) c.CloseParen refl) refl)

derive-laws : Laws (λ n. derive)
derive-laws = to_laws _ (seq_laws (the_laws c.Derive) (between_laws c.OpenParen (listed_laws name_laws refl refl refl) c.CloseParen refl) refl)

attribute-laws : Laws (λ n. attribute)
attribute-laws = to_laws _ (seq_laws (the_laws c.Hash) (between_laws c.OpenBracket (or_laws repr-laws derive-laws refl refl) c.CloseBracket refl) refl)

narrower-laws : Laws (λ n. narrower)
narrower-laws = any_laws c.Crate (c.Super ∷ c.Myself ∷ [])

visibility-laws : Laws (λ n. visibility)
visibility-laws = to_laws _ (seq_laws (the_laws c.Pub) (optional_laws (between_laws c.OpenParen narrower-laws c.CloseParen refl) refl) refl)

field-laws : Laws field
field-laws = mark_laws a_field (to_laws _ (seq_laws (optional_laws visibility-laws refl) (seq_laws name_laws (seq_laws (the_laws c.Colon) (type_laws 0) refl) refl) refl)) refl

behind-pub-laws : Laws behind_pub
behind-pub-laws = or_laws (to_laws _ (mark_laws (a_type 0) (plain_laws type_first (SpellsType 1) (read_type 1 31) tells_types (type_laws 1)) refl))
    (to_laws _ (seq_laws (the_laws c.OpenParen) (or_laws
    (to_laws _ (seq_laws narrower-laws (seq_laws (the_laws c.CloseParen) (type_laws 0) refl) refl))
    (to_laws _ (mark_laws (a_type 0) (behind_laws type_first (SpellsType 1) (read_type 1 31) tells_types (type_laws 1)) refl)) refl refl) refl)) refl refl

place-laws : Laws place
place-laws = mark_laws a_field (or_laws (to_laws _ (type_laws 0)) (to_laws _ (seq_laws (the_laws c.Pub) behind-pub-laws refl)) refl refl) refl

variant-field-laws : Laws variant_field
variant-field-laws = mark_laws a_field (to_laws _ (seq_laws name_laws (seq_laws (the_laws c.Colon) (type_laws 0) refl) refl)) refl

variant-place-laws : Laws variant_place
variant-place-laws = mark_laws a_field (to_laws _ (type_laws 0)) refl

variant-fields-laws : Laws variant_fields
variant-fields-laws = or_laws (between_laws c.OpenBrace (listed_laws variant-field-laws refl refl refl) c.CloseBrace refl) (between_laws c.OpenParen (listed_laws variant-place-laws refl refl refl) c.CloseParen refl) refl refl

discriminant-laws : Laws (λ n. discriminant)
discriminant-laws = to_laws _ (seq_laws (the_laws c.Equals) (seq_laws (optional_laws (the_laws c.Minus) refl) (the_laws number) refl) refl)

variant-laws : Laws variant
variant-laws = mark_laws a_variant (to_laws _ (seq_laws name_laws (seq_laws (optional_laws variant-fields-laws refl) (optional_laws discriminant-laws refl) refl) refl)) refl

pub parameter_laws : Laws (λ n. parameter)
parameter_laws = mark_laws a_parameter (the_laws c.Lifetime) refl

pub type_parameter_laws : Laws (λ n. type_parameter)
type_parameter_laws = mark_laws a_type_parameter definition_name_laws refl

pub parameters_told : IsTold parameter type_parameter
parameters_told = record { lifetime = refl; item = refl; lifetime_ends = refl; item_ends = refl; next_lifetime = refl; next_item = refl; either = refl }

parameters-laws : Laws (λ n. parameters)
parameters-laws = to_laws _ (optional_laws (between_laws c.Less (lifetimes_then_laws parameter_laws type_parameter_laws parameters_told) c.Greater refl) refl)

struct-laws : Laws struct_body
struct-laws = or_laws (to_laws _ (the_laws c.Semicolon)) (or_laws (to_laws _ (between_laws c.OpenBrace (listed_laws field-laws refl refl refl) c.CloseBrace refl))
    (to_laws _ (seq_laws (between_laws c.OpenParen (listed_laws place-laws refl refl refl) c.CloseParen refl) (the_laws c.Semicolon) refl)) refl refl) refl refl

union-laws : Laws union_body
union-laws = to_laws _ (between_laws c.OpenBrace (listed1_laws field-laws refl refl refl) c.CloseBrace refl)

enum-laws : Laws enum_body
enum-laws = between_laws c.OpenBrace (listed_laws variant-laws refl refl refl) c.CloseBrace refl

struct-headed : Laws (λ n. headed kind.Struct (any (c.Struct ∷ [])) (struct_body n))
struct-headed = mark_laws a_definition (to_laws _ (seq_laws (the_laws c.Struct) (seq_laws definition_name_laws (seq_laws parameters-laws struct-laws refl) refl) refl)) refl

union-headed : Laws (λ n. headed kind.Union (any (c.Union ∷ [])) (union_body n))
union-headed = mark_laws a_definition (to_laws _ (seq_laws (the_laws c.Union) (seq_laws definition_name_laws (seq_laws parameters-laws union-laws refl) refl) refl)) refl

enum-headed : Laws (λ n. headed kind.Enum (any (c.Enum ∷ [])) (enum_body n))
enum-headed = mark_laws a_definition (to_laws _ (seq_laws (the_laws c.Enum) (seq_laws definition_name_laws (seq_laws parameters-laws enum-laws refl) refl) refl)) refl

pub definition_laws : Laws definition
definition_laws = to_laws _ (seq_laws (many_laws attribute-laws refl refl) (seq_laws (optional_laws visibility-laws refl) (or_laws struct-headed (or_laws union-headed enum-headed refl refl) refl refl) refl) refl)
