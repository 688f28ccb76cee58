-- Lists to whose end types are added that they haven't yet.
use Rattle.std.specs.Prelude.{◌≡◌, ℕ, ◌+◌, ◌≤◌, List, ◌++◌, length, Contains, Result, Ok, Err}
use Rattle.tm_base.specs.Whole.{AreDistinct}
use Rattle.tm_ground.specs.declared.stop.Stop.{Stop}
use Rattle.tm_ground.specs.declared.stop.Stop.TheVariants as stop
use Rattle.tm_ground.specs.Closed.{Closed}

-- each of the first list is in the second
pub record IsWithin (xs ys : List Closed) : Type 0 where
  pub within : (c : Closed) → Contains xs c → Contains ys c

-- to the old list some of these were added, each once
pub record Grows (old xs new : List Closed) : Type 0 where
  pub extra : List Closed
  pub grown : new ≡ old ++ extra
  pub from : IsWithin extra xs
  pub distinct : AreDistinct old → AreDistinct new

-- all of these are in the new list, which has at most so many
pub record Adds (limit : ℕ) (old xs new : List Closed) : Type 0 where
  pub grows : Grows old xs new
  pub has : IsWithin xs new
  pub within : length old ≤ limit → length new ≤ limit

-- with these the list has more than so many
pub record Overflows (limit : ℕ) (old xs : List Closed) : Type 0 where
  pub found : List Closed
  pub grows : Grows old xs found
  pub count : length found ≡ limit + 1

-- what adding these to a list of at most so many may answer
abbrev pub Adding : ℕ → List Closed → List Closed → List Closed → Result Unit Stop → Type 0
Adding limit old xs new (Ok u) = Adds limit old xs new
Adding limit old xs new (Err stop.Full) = Overflows limit old xs
Adding limit old xs new (Err stop.Memory) = Unit {0}
