-- Rows of a world by numbers, for lists of the named types and of the references.
use Rattle.std.specs.Prelude.{◌≡◌, List}
use Rattle.std.specs.List.{AllZip}
use Rattle.tm_base.specs.declared.ask.Ask.{Ask}
use Rattle.tm_base.specs.declared.definition.NamedRow.{NamedRow}
use Rattle.tm_base.specs.declared.definition.RefRow.{RefRow}
use Rattle.tm_base.specs.declared.ground.Ground.{Ground}
use Rattle.tm_base.specs.declared.world.World.{World}
use Rattle.tm_names.specs.declared.resolved.OpenAsk.{OpenAsk}
use Rattle.tm_names.specs.declared.resolved.Resolved.{Resolved}
use Rattle.tm_ground.specs.declared.rows.Rows.{Rows}
use Rattle.tm_ground.specs.Closed.{Closed, Elements, named, ref, closed, listed}
use Rattle.tm_ground.specs.Numbered.{IsNumbered}
use Rattle.tm_ground.specs.Occurs.{field_types}

module _ (rows refs : List Closed) where
  -- the types of fields, a list for each variant
  abbrev pub AreFields : List (List Closed) → List (List Ground) → Type 0
  AreFields = AllZip (AllZip (IsNumbered rows refs))

  -- the row of a named type
  pub record IsNamedRow (resolved : Resolved) (c : Closed) (row : NamedRow) : Type 0 where
    pub args : Elements
    pub type : c ≡ named row.def row.regions args
    pub given : AllZip (IsNumbered rows refs) (listed args) row.args
    pub fields : AreFields (field_types resolved row.def row.regions (listed args)) row.types

  -- the row of a reference type
  pub record IsRefRow (c : Closed) (row : RefRow) : Type 0 where
    pub pointee : Closed
    pub type : c ≡ ref row.region row.mutable pointee
    pub numbered : IsNumbered rows refs pointee row.pointee

  -- a question by numbers
  pub record IsAsk (asked : OpenAsk) (ask : Ask) : Type 0 where
    pub src : IsNumbered rows refs (closed asked.src) ask.src
    pub dst : IsNumbered rows refs (closed asked.dst) ask.dst
    pub assume : asked.assume ≡ ask.assume

  -- the rows of all types of both lists, in their order, and the questions of the file
  pub record AreRows (resolved : Resolved) (made : Rows) : Type 0 where
    pub named : AllZip (IsNamedRow resolved) rows made.named
    pub ref_rows : AllZip IsRefRow refs made.refs
    pub questions : AllZip IsAsk resolved.asks made.questions

-- a world of the file with these rows and questions
pub record HasRows (resolved : Resolved) (made : Rows) (world : World) : Type 0 where
  pub profile : world.profile ≡ resolved.profile
  pub defs : world.defs ≡ resolved.defs
  pub regions : world.regions ≡ resolved.regions
  pub bounds : world.bounds ≡ resolved.bounds
  pub named : world.named ≡ made.named
  pub refs : world.refs ≡ made.refs
  pub questions : world.questions ≡ made.questions

-- a world of the file whose named rows and reference rows are of these lists, in their order
pub record IsWorldOf (resolved : Resolved) (rows refs : List Closed) (world : World) : Type 0 where
  pub profile : world.profile ≡ resolved.profile
  pub defs : world.defs ≡ resolved.defs
  pub regions : world.regions ≡ resolved.regions
  pub bounds : world.bounds ≡ resolved.bounds
  pub named : AllZip (IsNamedRow rows refs resolved) rows world.named
  pub ref_rows : AllZip (IsRefRow rows refs) refs world.refs
  pub questions : AllZip (IsAsk rows refs) resolved.asks world.questions
