-- The grammar of definitions: attributes, fields, variants, structs, unions and enums.
use Rattle.std.specs.Prelude.{ℕ, Bool, true, false, Option, Some, None, List, [], ◌∷◌, ◌++◌, map}
use Rattle.tm_base.specs.declared.definition.Kind.{Kind}
use Rattle.tm_base.specs.declared.definition.Kind.TheVariants as kind
use Rattle.tm_parse.specs.Combinators.{◌>>◌, ◌or◌, to, counts_as}
use Rattle.tm_parse.specs.Events.{a_definition, a_parameter, a_type_parameter, a_field, a_variant, a_type}
use Rattle.tm_parse.specs.Limits.{number_of}
use Rattle.tm_parse.specs.Parts.{Part}
use Rattle.tm_parse.specs.Shapes.{any, the, optional, is_there, many, listed, listed1, lifetimes_then, or_neither, between}
use Rattle.tm_parse.specs.Types.{integer, number, names, definition_names, primitive_of, places, or_none, plain_type, behind_paren, type_at}
use Rattle.tm_parse.specs.declared.class.Class.{Class}
use Rattle.tm_parse.specs.declared.class.Class.TheVariants as c
use Rattle.tm_parse.specs.declared.parsed.Decl.{Decl}
use Rattle.tm_parse.specs.declared.parsed.DeclField.{DeclField}
use Rattle.tm_parse.specs.declared.parsed.DeclRepr.{DeclRepr}
use Rattle.tm_parse.specs.declared.parsed.DeclVariant.{DeclVariant}
use Rattle.tm_parse.specs.declared.parsed.Expr.{Expr}
use Rattle.tm_parse.specs.declared.parsed.ReprItem.{ReprItem}
use Rattle.tm_parse.specs.declared.parsed.ReprItem.TheVariants as item
use Rattle.tm_parse.specs.declared.terminal.Terminal.{Terminal}

-- attributes

abbrev pub in_parens : Part Terminal
in_parens = between c.OpenParen (the number) c.CloseParen

-- `packed` is `packed(1)`
abbrev pub packed_to : Option Terminal → ℕ
packed_to None = 1
packed_to (Some t) = number_of t

abbrev pub repr_item : Part ReprItem
repr_item = to (λ t. item.C) (the c.C)
    or to (λ t. item.Transparent) (the c.Transparent)
    or to (λ t. item.Int (primitive_of t)) (the integer)
    or to (λ v. item.Packed (packed_to v.1)) (the c.Packed >> optional in_parens)
    or to (λ v. item.Align (number_of v.1)) (the c.Align >> in_parens)

-- the items, with the place of the attribute's word
abbrev pub placed_at : ℕ → List ReprItem → List DeclRepr
placed_at token = map (λ what. record { token = token; item = what })

abbrev pub repr : Part (List DeclRepr)
repr = to (λ v. placed_at v.0.place v.1)
    (the c.Repr >> between c.OpenParen (listed1 repr_item) c.CloseParen)

-- it says nothing
abbrev pub derive : Part (List DeclRepr)
derive = to (λ v. []) (the c.Derive >> between c.OpenParen (listed (any names)) c.CloseParen)

-- what may stand between the brackets
abbrev pub repr_or_derive : Part (List DeclRepr)
repr_or_derive = repr or derive

abbrev pub attribute : Part (List DeclRepr)
attribute = to (λ v. v.1) (the c.Hash >> between c.OpenBracket repr_or_derive c.CloseBracket)

abbrev pub together : List (List DeclRepr) → List DeclRepr
together [] = []
together (items ∷ others) = items ++ together others

-- visibility: plain `pub` alone is public

abbrev pub narrower : Part Terminal
narrower = any (c.Crate ∷ c.Super ∷ c.Myself ∷ [])

abbrev pub is_plain : Option Terminal → Bool
is_plain None = true
is_plain (Some t) = false

abbrev pub visibility : Part Bool
visibility = to (λ v. is_plain v.1) (the c.Pub >> optional (between c.OpenParen narrower c.CloseParen))

abbrev pub is_public : Option Bool → Bool
is_public None = false
is_public (Some plain) = plain

-- fields; `levels` bounds how deep their types go

abbrev pub named_as : Terminal → Bool → Expr → DeclField
named_as name public ty = record { name = Some name.place; public = public; ty = ty }

abbrev pub unnamed : Bool → Expr → DeclField
unnamed public ty = record { name = None; public = public; ty = ty }

abbrev pub field : ℕ → Part DeclField
field levels = counts_as a_field (to (λ (public, (name, (colon, ty))). named_as name (is_public public) ty)
    (optional visibility >> any names >> the c.Colon >> type_at 0 levels))

-- What may stand behind `pub` in a field of a tuple. Behind `pub (` the next terminal tells whether the
-- `(` belongs to `pub` or to the type. In the second case the type is counted behind the `(` that it
-- begins with; an outermost type passes no limit.
abbrev pub bare : ℕ → Part DeclField
bare levels = to (λ ty. unnamed true ty) (counts_as (a_type 0) (plain_type (type_at 1 levels)))

abbrev pub narrowed : ℕ → Part DeclField
narrowed levels = to (λ (word, (close, ty)). unnamed false ty) (narrower >> the c.CloseParen >> type_at 0 levels)

abbrev pub opened : ℕ → Part DeclField
opened levels = to (λ ty. unnamed true ty) (counts_as (a_type 0) (behind_paren (type_at 1 levels)))

abbrev pub behind_pub : ℕ → Part DeclField
behind_pub levels = bare levels or to (λ v. v.1) (the c.OpenParen >> (narrowed levels or opened levels))

abbrev pub place : ℕ → Part DeclField
place levels = counts_as a_field (to (λ ty. unnamed false ty) (type_at 0 levels) or to (λ v. v.1) (the c.Pub >> behind_pub levels))

-- the fields of a variant have no visibility of their own
abbrev pub variant_field : ℕ → Part DeclField
variant_field levels = counts_as a_field (to (λ (name, (colon, ty)). named_as name false ty) (any names >> the c.Colon >> type_at 0 levels))

abbrev pub variant_place : ℕ → Part DeclField
variant_place levels = counts_as a_field (to (λ ty. unnamed false ty) (type_at 0 levels))

-- variants

abbrev pub variant_fields : ℕ → Part (List DeclField)
variant_fields levels = between c.OpenBrace (listed (variant_field levels)) c.CloseBrace
    or between c.OpenParen (listed (variant_place levels)) c.CloseParen

-- `= 3` or `= -3`
abbrev pub discriminant : Part (Bool × ℕ)
discriminant = to (λ (equals, (minus, value)). (is_there minus, number_of value)) (the c.Equals >> optional (the c.Minus) >> the number)

abbrev pub variant_of : Terminal → Option (List DeclField) → Option (Bool × ℕ) → DeclVariant
variant_of name fields None = record { name = Some name.place; negative = false; value = None; fields = or_none fields }
variant_of name fields (Some d) = record { name = Some name.place; negative = d.0; value = Some d.1; fields = or_none fields }

abbrev pub variant : ℕ → Part DeclVariant
variant levels = counts_as a_variant (to (λ (name, (fields, value)). variant_of name fields value)
    (any names >> optional (variant_fields levels) >> optional discriminant))

-- definitions

-- the parameters are lifetimes and names of types
abbrev pub parameter : Part Terminal
parameter = counts_as a_parameter (the c.Lifetime)

abbrev pub type_parameter : Part Terminal
type_parameter = counts_as a_type_parameter (any definition_names)

abbrev pub parameter_list : Part (List Terminal × List Terminal)
parameter_list = lifetimes_then parameter type_parameter

abbrev pub both_places : List Terminal × List Terminal → List ℕ × List ℕ
both_places v = (places v.0, places v.1)

abbrev pub parameters : Part (List ℕ × List ℕ)
parameters = to (λ v. both_places (or_neither v)) (optional (between c.Less parameter_list c.Greater))

-- a struct or a union is one variant
abbrev pub single : List DeclField → List DeclVariant
single fields = record { name = None; negative = false; value = None; fields = fields } ∷ []

abbrev pub struct_body : ℕ → Part (List DeclVariant)
struct_body levels = to (λ v. single []) (the c.Semicolon)
    or to single (between c.OpenBrace (listed (field levels)) c.CloseBrace)
    or to (λ v. single v.0) (between c.OpenParen (listed (place levels)) c.CloseParen >> the c.Semicolon)

abbrev pub union_body : ℕ → Part (List DeclVariant)
union_body levels = to single (between c.OpenBrace (listed1 (field levels)) c.CloseBrace)

abbrev pub enum_body : ℕ → Part (List DeclVariant)
enum_body levels = between c.OpenBrace (listed (variant levels)) c.CloseBrace

-- the word, the name, the parameters and the variants, to which the attributes are put
abbrev pub defined : Kind → Terminal × Terminal × (List ℕ × List ℕ) × List DeclVariant → List DeclRepr → Decl
defined what v reprs = record { kind = what; name = v.1.place; reprs = reprs; params = v.2.0; type_params = v.2.1; variants = v.3 }

abbrev pub headed : Kind → Part Terminal → Part (List DeclVariant) → Part (List DeclRepr → Decl)
headed what word body = counts_as a_definition (to (λ (word, (name, (given, variants))). defined what (word, name, given, variants)) (word >> any definition_names >> parameters >> body))

-- the word and the body of each kind of definition
abbrev pub word_of : Kind → Class
word_of kind.Struct = c.Struct
word_of kind.Union = c.Union
word_of kind.Enum = c.Enum

abbrev pub body_of : Kind → ℕ → Part (List DeclVariant)
body_of kind.Struct levels = struct_body levels
body_of kind.Union levels = union_body levels
body_of kind.Enum levels = enum_body levels

-- a definition of the kind, with the items of its attributes
abbrev pub headed_with : Kind → List DeclRepr → Part Decl
headed_with what reprs = to (λ make. make reprs) (headed what (the (word_of what)) (body_of what 0))

-- each kind of definition, without its attributes and its visibility
abbrev pub headed_struct : ℕ → Part (List DeclRepr → Decl)
headed_struct levels = headed kind.Struct (the c.Struct) (struct_body levels)

abbrev pub headed_union : ℕ → Part (List DeclRepr → Decl)
headed_union levels = headed kind.Union (the c.Union) (union_body levels)

abbrev pub headed_enum : ℕ → Part (List DeclRepr → Decl)
headed_enum levels = headed kind.Enum (the c.Enum) (enum_body levels)

abbrev pub headed_any : ℕ → Part (List DeclRepr → Decl)
headed_any levels = headed_struct levels or headed_union levels or headed_enum levels

abbrev pub definition : ℕ → Part Decl
definition levels = to (λ (attributes, (public, headed)). headed (together attributes)) (many attribute >> optional visibility >> headed_any levels)
