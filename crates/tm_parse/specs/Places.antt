-- The places of tokens that a file has: where a name, a lifetime or a `repr` is written.
use Rattle.std.specs.Prelude.{ℕ, ◌<◌, IfSome, List, [], ◌∷◌, All}
use Rattle.tm_parse.specs.Bounds.{EachWritten}
use Rattle.tm_parse.specs.declared.parsed.Decl.{Decl}
use Rattle.tm_parse.specs.declared.parsed.DeclAsk.{DeclAsk}
use Rattle.tm_parse.specs.declared.parsed.DeclBound.{DeclBound}
use Rattle.tm_parse.specs.declared.parsed.DeclField.{DeclField}
use Rattle.tm_parse.specs.declared.parsed.DeclVariant.{DeclVariant}
use Rattle.tm_parse.specs.declared.parsed.Expr.{Expr, Named', Ref'}
use Rattle.tm_parse.specs.declared.parsed.Parsed.{Parsed}
use Rattle.tm_parse.specs.declared.terminal.Terminal.{Terminal}

-- those of a type, without the types in it
abbrev pub own_places : Expr → List ℕ
own_places (Named' name lifetimes shape row) = name ∷ lifetimes
own_places (Ref' lifetime unique shape row) = lifetime ∷ []
own_places other = []

-- that each place is so, in a type and in each part of a file
module _ (IsPlace : ℕ → Type 0) where
  abbrev pub PlacesOfType : Expr → Type 0
  PlacesOfType = EachWritten (λ inner. All IsPlace (own_places inner))

  pub record PlacesOfField (field : DeclField) : Type 0 where
    pub name : IfSome field.name IsPlace
    pub type : PlacesOfType field.ty

  pub record PlacesOfVariant (variant : DeclVariant) : Type 0 where
    pub name : IfSome variant.name IsPlace
    pub fields : All PlacesOfField variant.fields

  pub record PlacesOfDefinition (definition : Decl) : Type 0 where
    pub name : IsPlace definition.name
    pub reprs : All (λ repr. IsPlace repr.token) definition.reprs
    pub parameters : All IsPlace definition.params
    pub type_parameters : All IsPlace definition.type_params
    pub variants : All PlacesOfVariant definition.variants

  pub record PlacesOfBound (bound : DeclBound) : Type 0 where
    pub longer : IsPlace bound.longer
    pub shorter : IsPlace bound.shorter

  pub record PlacesOfQuestion (question : DeclAsk) : Type 0 where
    pub source : PlacesOfType question.src
    pub target : PlacesOfType question.dst

  pub record EachPlace (file : Parsed) : Type 0 where
    pub lifetimes : All IsPlace file.lifetimes
    pub bounds : All PlacesOfBound file.bounds
    pub definitions : All PlacesOfDefinition file.decls
    pub questions : All PlacesOfQuestion file.questions

-- each place of a file is below a number, and so are those of terminals
abbrev pub HasPlacesBelow : ℕ → Parsed → Type 0
HasPlacesBelow n file = EachPlace (λ place. place < n) file

abbrev pub StandBelow : ℕ → List Terminal → Type 0
StandBelow n ts = All (λ t. t.place < n) ts
