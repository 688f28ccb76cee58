-- What is held by value: definitions, and the type parameters of the definition in which a type stands.
use Rattle.std.specs.Prelude.{◌≡◌, ℕ, Bool, true, false, if◌then◌else◌, Option, Some, None, List, [], Contains, slice_get, map, flat_map}
use Rattle.tm_base.specs.declared.ground.Wrapper.{Wrapper}
use Rattle.tm_base.specs.declared.ground.Wrapper.TheVariants.{PhantomData}
use Rattle.tm_names.specs.declared.meaning.Meaning.{Meaning}
use Rattle.tm_names.specs.declared.meaning.Meaning.TheVariants.{Definition, Parameter}
use Rattle.tm_names.specs.Meanings.{meaning_of}
use Rattle.tm_names.specs.Mentions.{row_items}
use Rattle.tm_parse.specs.declared.parsed.Decl.{Decl}
use Rattle.tm_parse.specs.declared.parsed.Expr.{Expr, Tuple', Array', Wrap', Named'}

-- a wrapper holds its argument
abbrev pub is_holder : Wrapper → Bool
is_holder PhantomData = false
is_holder w = true

-- The types of which an array, a tuple and a wrapper hold all: their elements, or the argument. A
-- reference and `PhantomData` have none.
abbrev pub parts_of : Expr → List Expr
parts_of (Tuple' shape row) = row_items row
parts_of (Array' shape row n) = row_items row
parts_of (Wrap' w shape row) = if is_holder w then row_items row else []
parts_of e = []

-- the name of a named type, and the types that are given to it
abbrev pub name_of : Expr → Option ℕ
name_of (Named' place lifetimes shape row) = Some place
name_of e = None

abbrev pub arguments_of : Expr → List Expr
arguments_of (Named' place lifetimes shape row) = row_items row
arguments_of e = []

-- the types of a definition's fields
abbrev pub types_of : Decl → List Expr
types_of d = flat_map (λ v. map (λ field. field.ty) v.fields) d.variants

module _ (name : ℕ → List ℕ) (decls : List Decl) where
  -- a type is a name that means this, where these type parameters are in sight
  pub record Means (types : List ℕ) (e : Expr) (x : Meaning) : Type 0 where
    pub place : ℕ
    pub named : name_of e ≡ Some place
    pub meant : meaning_of name decls types place ≡ Some x

  mutual
    -- what the definition of a number holds
    pub data Holds : ℕ → Meaning → Type 0 where
      -- all that the types of its fields hold
      by_field : (i : ℕ) (d : Decl) (e : Expr) (x : Meaning) → slice_get decls i ≡ Some d → Contains (types_of d) e
          → TypeHolds d.type_params e x → Holds i x
      -- the definitions that a definition holds which it holds
      by_definition : (i j k : ℕ) → Holds i (Definition j) → Holds j (Definition k) → Holds i (Definition k)

    -- what a type holds, where these type parameters are in sight
    pub data TypeHolds : List ℕ → Expr → Meaning → Type 0 where
      -- the parameter that it is
      is_parameter : (types : List ℕ) (e : Expr) (k : ℕ) → Means types e (Parameter k) → TypeHolds types e (Parameter k)
      -- the definition that it names
      is_definition : (types : List ℕ) (e : Expr) (j : ℕ) → Means types e (Definition j) → TypeHolds types e (Definition j)
      -- all that its parts hold
      by_part : (types : List ℕ) (e part : Expr) (x : Meaning) → Contains (parts_of e) part → TypeHolds types part x → TypeHolds types e x
      -- all that an argument holds, where its definition holds the parameter that the argument is for
      by_argument : (types : List ℕ) (e argument : Expr) (j k : ℕ) (x : Meaning) → Means types e (Definition j) → Holds j (Parameter k)
          → slice_get (arguments_of e) k ≡ Some argument → TypeHolds types argument x → TypeHolds types e x

  -- a definition is held by itself
  abbrev pub HoldsItself : ℕ → Type 0
  HoldsItself i = Holds i (Definition i)
