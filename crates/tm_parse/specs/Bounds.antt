-- What every file keeps that is spelled within the limits.
use Rattle.std.specs.Prelude.{◌≡◌, ◌≤◌, ◌<◌, Bool, true, nat_le, IsTrue, IsSome, List, [], ◌∷◌, length, flat_map, All}
use Rattle.tm_base.specs.declared.definition.Kind.{Kind}
use Rattle.tm_base.specs.declared.definition.Kind.TheVariants as kind
use Rattle.tm_base.specs.declared.limit.LimitKind.TheVariants as limit
use Rattle.tm_base.specs.Integers.{is_integer}
use Rattle.tm_parse.specs.Classes.{among}
use Rattle.tm_parse.specs.Definitions.{single}
use Rattle.tm_base.specs.Limits.{limit_number}
use Rattle.tm_parse.specs.Types.{integer, alias, primitive_of}
use Rattle.tm_parse.specs.Written.{written}
use Rattle.tm_parse.specs.declared.parsed.Decl.{Decl}
use Rattle.tm_parse.specs.declared.parsed.DeclField.{DeclField}
use Rattle.tm_parse.specs.declared.parsed.DeclVariant.{DeclVariant}
use Rattle.tm_parse.specs.declared.parsed.Expr.{Expr, NonZero, Array'}
use Rattle.tm_parse.specs.declared.parsed.Parsed.{Parsed}
use Rattle.tm_parse.specs.declared.terminal.Terminal.{Terminal}

-- lifetimes, definitions and questions are no more than the limits allow
pub record HasFewItems (file : Parsed) : Type 0 where
  pub lifetimes : length file.lifetimes ≤ limit_number limit.Lifetimes
  pub definitions : length file.decls ≤ limit_number limit.Definitions
  pub questions : length file.questions ≤ limit_number limit.Questions

-- The variants that a definition of the kind may have: a struct is one variant, with neither name nor
-- written discriminant; so is a union, which has a field; each variant of an enum has a name.
abbrev pub AreVariantsOf : Kind → List DeclVariant → Type 0
AreVariantsOf kind.Struct variants = (fields : List DeclField) × (variants ≡ single fields)
AreVariantsOf kind.Union variants = (fields : List DeclField) × (variants ≡ single fields) × (0 < length fields)
AreVariantsOf kind.Enum variants = All (λ v. IsSome v.name) variants

pub record HasItsVariants (definition : Decl) : Type 0 where
  pub variants : AreVariantsOf definition.kind definition.variants

-- the fields of all the variants
abbrev pub fields_of : List DeclVariant → List DeclField
fields_of = flat_map (λ variant. variant.fields)

-- a definition's parameters of either sort, its variants, and the fields of all of them, are no more than the
-- limits allow
pub record HasFewParts (definition : Decl) : Type 0 where
  pub parameters : length definition.params ≤ limit_number limit.Parameters
  pub type_params : length definition.type_params ≤ limit_number limit.TypeParameters
  pub variants : length definition.variants ≤ limit_number limit.Variants
  pub fields : length (fields_of definition.variants) ≤ limit_number limit.Fields

-- what holds of each type that a field has, and of both types of each question
pub record EachType (Is : Expr → Type 0) (file : Parsed) : Type 0 where
  pub fields : All (λ definition. All (λ variant. All (λ field. Is field.ty) variant.fields) definition.variants) file.decls
  pub questions : All (λ question. Is question.src × Is question.dst) file.questions

-- the types that are written in one, itself among them, are no more than the limit allows
pub record IsSmall (type : Expr) : Type 0 where
  pub nodes : length (written type) ≤ limit_number limit.TypeNodes

-- what holds of a type and of each one that is written in it
pub record EachWritten (Is : Expr → Type 0) (type : Expr) : Type 0 where
  pub each : All Is (written type)

-- a `NonZero` is of an integer type
abbrev pub is_of_integer : Expr → Bool
is_of_integer (NonZero p) = is_integer p
is_of_integer other = true

abbrev pub HasIntegers : Expr → Type 0
HasIntegers = EachWritten (λ inner. IsTrue (is_of_integer inner))

-- the length of an array is no more than the limit allows
abbrev pub is_short : Expr → Bool
is_short (Array' shape row n) = nat_le n (limit_number limit.ArrayLength)
is_short other = true

abbrev pub HasShortArrays : Expr → Type 0
HasShortArrays = EachWritten (λ inner. IsTrue (is_short inner))

-- A word for an integer type, or for a `NonZero` of one, carries an integer type.
abbrev pub CarriesInteger : Terminal → Type 0
CarriesInteger t = IsTrue (among (integer ∷ alias ∷ []) t.class) → IsTrue (is_integer (primitive_of t))

-- what every file keeps that a text's tokens spell within the limits
pub record IsWithinLimits (file : Parsed) : Type 0 where
  pub items : HasFewItems file
  pub variants : All HasItsVariants file.decls
  pub parts : All HasFewParts file.decls
  pub types : EachType IsSmall file
  pub integers : EachType HasIntegers file
  pub arrays : EachType HasShortArrays file
