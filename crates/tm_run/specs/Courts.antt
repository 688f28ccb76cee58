-- What questions are judged by.
use Rattle.std.specs.Prelude.{All, Bool, List, Option, None, Some}
use Rattle.tm_base.specs.declared.assume.Assume.{Assume}
use Rattle.tm_base.specs.Tables.{Tables}
use Rattle.tm_layout.specs.Made.{IsMadeFor}
use Rattle.tm_layout.specs.declared.layouts.Layouts.{Layouts}
use Rattle.tm_refs.specs.declared.compat.Compat.{Compat}
use Rattle.tm_refs.specs.Solved.{IsSolvedFor}
use Rattle.tm_region.specs.Order.{IsOrderOf}

-- the table is one of the world's references, for some assumptions
pub record IsSolved (tables : Tables) (compat : Compat) : Type 0 where
  pub assume : Assume
  pub solved : IsSolvedFor tables assume compat

-- there is a table, for these assumptions
abbrev pub IsTableFor : Tables → Assume → Option Compat → Type 0
IsTableFor tables assume None = ⊥
IsTableFor tables assume (Some compat) = IsSolvedFor tables assume compat

-- all of it is of the world with these tables
pub record IsCourt (tables : Tables) (layouts : Layouts) (order : List (List Bool)) (solved : List Compat) : Type 0 where
  pub layouts_are : IsMadeFor tables layouts
  pub order_is : IsOrderOf tables.bounds order
  pub solved_are : All (IsSolved tables) solved
