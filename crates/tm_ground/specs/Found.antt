-- Types, rows and questions by numbers, where a number is a place in one of the sets of what is found.
use Rattle.std.specs.Prelude.{List}
use Rattle.tm_base.specs.declared.ask.Ask.{Ask}
use Rattle.tm_base.specs.declared.definition.NamedRow.{NamedRow}
use Rattle.tm_base.specs.declared.definition.RefRow.{RefRow}
use Rattle.tm_base.specs.declared.ground.Ground.{Ground}
use Rattle.tm_base.specs.declared.world.World.{World}
use Rattle.tm_names.specs.declared.resolved.OpenAsk.{OpenAsk}
use Rattle.tm_names.specs.declared.resolved.Resolved.{Resolved}
use Rattle.tm_ground.specs.declared.found.Found.{Found}
use Rattle.tm_ground.specs.declared.ordering.Texted.{Texted}
use Rattle.tm_ground.specs.declared.rows.Rows.{Rows}
use Rattle.tm_ground.specs.Closed.{Closed}
use Rattle.tm_ground.specs.Closing.{AreFound}
use Rattle.tm_ground.specs.Numbered.{HasNumbers, HaveNumbers, IsNumbered}
use Rattle.tm_ground.specs.Rows.{AreFields, AreRows, IsAsk, IsNamedRow, IsRefRow}
use Rattle.tm_ground.specs.Sets.{closed_types}
use Rattle.tm_ground.specs.Texted.{AreInTextOrder, HasItsText}

module _ (found : Found) where
  -- all named types and references that occur are found, and no more
  abbrev pub IsAllOf : Resolved → Type 0
  IsAllOf resolved = AreFound resolved (closed_types found.named) (closed_types found.refs)

  -- the named types and the references that are written in a type are found, and so in each of some types
  abbrev pub HasNumbersIn : Closed → Type 0
  HasNumbersIn = HasNumbers (closed_types found.named) (closed_types found.refs)

  abbrev pub HaveNumbersIn : List Closed → Type 0
  HaveNumbersIn = HaveNumbers (closed_types found.named) (closed_types found.refs)

  -- a type with its numbers is the closed type
  abbrev pub IsNumberedIn : Closed → Ground → Type 0
  IsNumberedIn = IsNumbered (closed_types found.named) (closed_types found.refs)

  -- the types of fields, a list for each variant
  abbrev pub AreFieldsIn : List (List Closed) → List (List Ground) → Type 0
  AreFieldsIn = AreFields (closed_types found.named) (closed_types found.refs)

  -- the row of a named type of the file, and that of a reference type
  abbrev pub IsNamedRowIn : Resolved → Closed → NamedRow → Type 0
  IsNamedRowIn = IsNamedRow (closed_types found.named) (closed_types found.refs)

  abbrev pub IsRefRowIn : Closed → RefRow → Type 0
  IsRefRowIn = IsRefRow (closed_types found.named) (closed_types found.refs)

  -- a question by numbers
  abbrev pub IsAskIn : OpenAsk → Ask → Type 0
  IsAskIn = IsAsk (closed_types found.named) (closed_types found.refs)

  -- the rows of all that is found, and the questions of the file
  abbrev pub AreRowsIn : Resolved → Rows → Type 0
  AreRowsIn = AreRows (closed_types found.named) (closed_types found.refs)

  -- a text is that of the type beside it in a world with these numbers
  abbrev pub HasItsTextIn : World → Texted → Type 0
  HasItsTextIn = HasItsText (closed_types found.named) (closed_types found.refs)

  -- types whose texts in such a world don't fall in byte order
  abbrev pub AreSortedIn : World → List Closed → Type 0
  AreSortedIn = AreInTextOrder (closed_types found.named) (closed_types found.refs)

-- the rows of all named types and references that occur, in some order, and the questions
pub record AreRowsOfAll (resolved : Resolved) (made : Rows) : Type 0 where
  pub types : List Closed
  pub refs : List Closed
  pub whole : AreFound resolved types refs
  pub rows : AreRows types refs resolved made
