-- What the search for the types that occur finds.
use Rattle.std.specs.Prelude.{ℕ, ◌≤◌, List, length}
use Rattle.tm_names.specs.declared.resolved.Resolved.{Resolved}
use Rattle.tm_ground.specs.Belongs.{ListsAll}
use Rattle.tm_ground.specs.Closed.{Closed}
use Rattle.tm_ground.specs.Limits.{is_named, is_ref, OccursAs, PassesNodes, type_limit, ref_limit}

-- a list of all types of a kind that occur, which are at most so many
pub record ListsAllWithin (limit : ℕ) (P : Closed → Type 0) (found : List Closed) : Type 0 where
  pub all : ListsAll P found
  pub few : length found ≤ limit

-- all named types that occur, and all reference types, where none has too many nodes
pub record AreFound (resolved : Resolved) (found_named found_refs : List Closed) : Type 0 where
  pub rows : ListsAllWithin type_limit (OccursAs is_named resolved) found_named
  pub refs : ListsAllWithin ref_limit (OccursAs is_ref resolved) found_refs
  pub small : ¬ PassesNodes resolved
