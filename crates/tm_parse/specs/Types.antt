-- The grammar of types.
use Rattle.std.specs.Prelude.{ℕ, zero, suc, ◌-◌, Bool, true, false, Option, Some, None, List, [], ◌∷◌, map}
use Rattle.tm_base.specs.declared.ground.Primitive.{Primitive}
use Rattle.tm_base.specs.declared.ground.Primitive.TheVariants as primitive
use Rattle.tm_base.specs.declared.ground.Wrapper.{Wrapper}
use Rattle.tm_base.specs.declared.ground.Wrapper.TheVariants as wrapper
use Rattle.tm_parse.specs.Combinators.{starts, one, ◌>>◌, ◌or◌, to, counts_as}
use Rattle.tm_parse.specs.Events.{array_length, a_type, Event}
use Rattle.tm_parse.specs.Limits.{number_of}
use Rattle.tm_parse.specs.Parts.{Outcome, Stuck, Passed, Reader, Part}
use Rattle.tm_parse.specs.Shapes.{any, the, optional, is_there, listed, lifetimes_then, or_neither, between}
use Rattle.tm_parse.specs.declared.class.Class.{Class}
use Rattle.tm_parse.specs.declared.class.Class.TheVariants as c
use Rattle.tm_base.specs.declared.limit.LimitKind.TheVariants as limit
use Rattle.tm_parse.specs.declared.parsed.Expr.{Expr}
use Rattle.tm_parse.specs.declared.parsed.Expr.TheVariants as expr
use Rattle.tm_parse.specs.declared.terminal.Terminal.{Terminal}

-- the sets of classes: a class stands for whatever it carries
abbrev pub integer : Class
integer = c.Integer primitive.U8

abbrev pub scalar : Class
scalar = c.Scalar primitive.Bool

abbrev pub alias : Class
alias = c.Alias primitive.U8

abbrev pub generic : Class
generic = c.Generic wrapper.Option

abbrev pub number : Class
number = c.Number 0

-- words that a definition may be called by; those behind the first are keywords in other places
abbrev pub definition_names : List Class
definition_names = c.Name ∷ c.Align ∷ c.Alignment ∷ c.Ask ∷ c.Assume ∷ c.C ∷ c.Derive ∷ c.Declare ∷ c.Lifetimes ∷ c.Outlives ∷ c.Packed ∷ c.Repr ∷ c.Safety ∷ c.Transparent ∷ c.Union ∷ c.Validity ∷ []

-- words that a field or a variant may be called by
abbrev pub names : List Class
names = integer ∷ scalar ∷ alias ∷ generic ∷ c.NonZero ∷ c.Foreign ∷ definition_names

-- the terminals that begin a type
abbrev pub type_first : List Class
type_first = c.OpenParen ∷ integer ∷ scalar ∷ c.Bang ∷ c.OpenBracket ∷ c.Ampersand ∷ c.NonZero ∷ alias ∷ generic ∷ definition_names

-- what a terminal carries
abbrev pub primitive_of : Terminal → Primitive
primitive_of t = carried t.class
  where
    carried : Class → Primitive
    carried (c.Integer p) = p
    carried (c.Scalar p) = p
    carried (c.Alias p) = p
    carried other = primitive.U8

abbrev pub wrapper_of : Terminal → Wrapper
wrapper_of t = carried t.class
  where
    carried : Class → Wrapper
    carried (c.Generic w) = w
    carried other = wrapper.Option

abbrev pub places : List Terminal → List ℕ
places = map (λ t. t.place)

abbrev pub or_none : {V : Type 0} → Option (List V) → List V
or_none None = []
or_none (Some vs) = vs

-- a type in parentheses, or a tuple where a comma comes
abbrev pub tuple_or_inner : Expr → Option (Terminal × List Expr) → Expr
tuple_or_inner t None = t
tuple_or_inner t (Some others) = expr.Tuple (t ∷ others.1)

-- a definition by its name, with the lifetimes and the types that are given to it
abbrev pub named_with : Terminal → List Terminal × List Expr → Expr
named_with name given = expr.Named name.place (places given.0) given.1

-- each kind of type, over the part for the types in it
module _ (type : Part Expr) where
  abbrev pub primitive_type : Part Expr
  primitive_type = to (λ t. expr.Prim (primitive_of t)) (any (integer ∷ scalar ∷ []))

  abbrev pub never_type : Part Expr
  never_type = to (λ t. expr.Never) (the c.Bang)

  -- what stands behind `(`
  abbrev pub behind_paren : Part Expr
  behind_paren = to (λ t. expr.Tuple []) (the c.CloseParen)
      or to (λ (first, (others, close)). tuple_or_inner first others) (type >> optional (the c.Comma >> listed type) >> the c.CloseParen)

  abbrev pub paren_type : Part Expr
  paren_type = to (λ v. v.1) (the c.OpenParen >> behind_paren)

  abbrev pub array_type : Part Expr
  array_type = to (λ (opening, (element, (semicolon, (length, closing)))). expr.Array element (number_of length))
      (the c.OpenBracket >> type >> the c.Semicolon >> one array_length (number ∷ []) >> the c.CloseBracket)

  abbrev pub reference_type : Part Expr
  reference_type = to (λ (ampersand, (region, (mutable, pointee))). expr.Ref region.place (is_there mutable) pointee)
      (the c.Ampersand >> the c.Lifetime >> optional (the c.Mut) >> type)

  abbrev pub nonzero_type : Part Expr
  nonzero_type = to (λ v. expr.NonZero (primitive_of v.1)) (the c.NonZero >> between c.Less (the integer) c.Greater)

  abbrev pub alias_type : Part Expr
  alias_type = to (λ t. expr.NonZero (primitive_of t)) (the alias)

  abbrev pub wrapped_type : Part Expr
  wrapped_type = to (λ v. expr.Wrap (wrapper_of v.0) v.1) (the generic >> between c.Less type c.Greater)

  -- `<'a, 'b, T, U>`
  abbrev pub argument_list : Part (List Terminal × List Expr)
  argument_list = lifetimes_then (the c.Lifetime) type

  abbrev pub arguments : Part (List Terminal × List Expr)
  arguments = between c.Less argument_list c.Greater

  abbrev pub named_type : Part Expr
  named_type = to (λ v. named_with v.0 (or_neither v.1)) (any definition_names >> optional arguments)

  -- a type that doesn't begin with `(`
  abbrev pub plain_type : Part Expr
  plain_type = primitive_type or never_type or array_type or reference_type or nonzero_type or alias_type or wrapped_type or named_type

  abbrev pub one_level : Part Expr
  one_level = paren_type or plain_type

-- a type as a part, of what it spells and how it is read; behind its name `<` would go on with it
abbrev pub type_part : List Class → (Expr → List Event → Type 0) → Reader Expr → Part Expr
type_part first Spells read = record { spells = Spells; read = read; first = first; bars = c.Less ∷ []; empty = false }

abbrev pub read_none : Reader Expr
read_none n ts = Stuck ts

-- a type with so many types around it, written with at most so many in one another
unfoldable pub SpellsType : ℕ → ℕ → Expr → List Event → Type 0
SpellsType depth zero v e = ⊥
SpellsType depth (suc levels) v e = (counts_as (a_type depth) (one_level (type_part type_first (SpellsType (suc depth) levels) read_none))).spells v e

-- the reader has as many levels as may stand in one another; a type below them is nested too deep
abbrev pub too_deep : Bool → List Terminal → Outcome Expr
too_deep true ts = Passed limit.Nesting ts
too_deep false ts = Stuck ts

unfoldable pub read_type : ℕ → ℕ → Reader Expr
read_type depth zero n ts = too_deep (starts type_first ts) ts
read_type depth (suc levels) n ts = (counts_as (a_type depth) (one_level (type_part type_first (SpellsType depth zero) (read_type (suc depth) levels)))).read n ts

abbrev pub type_at : ℕ → ℕ → Part Expr
type_at depth levels = type_part type_first (SpellsType depth levels) (read_type depth (32 - depth))
