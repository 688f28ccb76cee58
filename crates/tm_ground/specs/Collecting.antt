-- What the search for the types that occur adds to what it has found, and what it notes.
use Rattle.std.specs.Prelude.{◌≡◌, ℕ, ◌≤◌, true, false, List, [], ◌++◌, length, Contains, Result, Ok, Err}
use Rattle.tm_base.specs.Whole.{AreDistinct}
use Rattle.tm_names.specs.declared.resolved.Resolved.{Resolved}
use Rattle.tm_ground.specs.declared.collector.Collector.{Collector}
use Rattle.tm_ground.specs.declared.stop.Stop.{Stop}
use Rattle.tm_ground.specs.declared.stop.Stop.TheVariants as stop
use Rattle.tm_ground.specs.Closed.{Closed}
use Rattle.tm_ground.specs.Growing.{IsWithin}
use Rattle.tm_ground.specs.Limits.{is_named, is_ref, is_small_named, OccursAs, PassesNodes, PassesRefs, PassesTypes, type_limit, ref_limit}
use Rattle.tm_ground.specs.Occurs.{Occurs, is_small}
use Rattle.tm_ground.specs.Sets.{closed_types}
use Rattle.tm_ground.specs.Written.{named_in, refs_in}

-- types of a kind that occur, each once, and at most so many
pub record AreSome (limit : ℕ) (P : Closed → Type 0) (found : List Closed) : Type 0 where
  pub each : (c : Closed) → Contains found c → P c
  pub distinct : AreDistinct found
  pub few : length found ≤ limit

-- nothing but what occurs is found, and what is noted is so
pub record IsSound (resolved : Resolved) (s : Collector) : Type 0 where
  pub named : AreSome type_limit (OccursAs is_small_named resolved) (closed_types s.found.named)
  pub refs : s.many_refs ≡ false → AreSome ref_limit (OccursAs is_ref resolved) (closed_types s.found.refs)
  pub big : s.big ≡ true → PassesNodes resolved
  pub many_refs : s.many_refs ≡ true → PassesRefs resolved

-- what is written in a type is found, or it is noted
pub record IsSeen (c : Closed) (s : Collector) : Type 0 where
  pub named : is_small c ≡ true → IsWithin (named_in c) (closed_types s.found.named)
  pub refs : is_small c ≡ true → s.many_refs ≡ false → IsWithin (refs_in c) (closed_types s.found.refs)
  pub big : is_small c ≡ false → s.big ≡ true

-- what was found and noted stays so
pub record Keeps (old new : Collector) : Type 0 where
  pub extra : List Closed
  pub named : closed_types new.found.named ≡ closed_types old.found.named ++ extra
  pub refs : new.many_refs ≡ false → (old.many_refs ≡ false) × IsWithin (closed_types old.found.refs) (closed_types new.found.refs)
  pub big : old.big ≡ true → new.big ≡ true

-- all of these are seen
pub record Sees (resolved : Resolved) (xs : List Closed) (old new : Collector) : Type 0 where
  pub sound : IsSound resolved new
  pub keeps : Keeps old new
  pub seen : (c : Closed) → Contains xs c → IsSeen c new

-- what looking into types that occur may answer
abbrev pub Seeing : Resolved → List Closed → Collector → Collector → Result Unit Stop → Type 0
Seeing resolved xs old new (Ok u) = Sees resolved xs old new
Seeing resolved xs old new (Err stop.Full) = PassesTypes resolved
Seeing resolved xs old new (Err stop.Memory) = Unit {0}

abbrev pub Collecting : List Closed → Collector → Collector → Result Unit Stop → Type 0
Collecting xs old new r = (resolved : Resolved) → IsSound resolved old → ((c : Closed) → Contains xs c → Occurs resolved c) → Seeing resolved xs old new r

-- a type itself is found
pub record Finds (resolved : Resolved) (c : Closed) (old new : Collector) : Type 0 where
  pub sound : IsSound resolved new
  pub keeps : Keeps old new
  pub named : is_named c ≡ true → Contains (closed_types new.found.named) c
  pub refs : is_ref c ≡ true → new.many_refs ≡ false → Contains (closed_types new.found.refs) c

abbrev pub FindingIn : Resolved → Closed → Collector → Collector → Result Unit Stop → Type 0
FindingIn resolved c old new (Ok u) = Finds resolved c old new
FindingIn resolved c old new (Err stop.Full) = PassesTypes resolved
FindingIn resolved c old new (Err stop.Memory) = Unit {0}

abbrev pub Finding : Closed → Collector → Collector → Result Unit Stop → Type 0
Finding c old new r = (resolved : Resolved) → IsSound resolved old → Occurs resolved c → FindingIn resolved c old new r

-- no type of these has too many nodes
pub record AreSmall (cs : List Closed) : Type 0 where
  pub each : (c : Closed) → Contains cs c → is_small c ≡ true

-- nothing is found or noted
pub record IsEmpty (s : Collector) : Type 0 where
  pub named : closed_types s.found.named ≡ []
  pub refs : closed_types s.found.refs ≡ []
  pub big : s.big ≡ false
  pub many_refs : s.many_refs ≡ false

-- only what occurs is found and noted, and all that occurs is seen
pub record IsClosed (resolved : Resolved) (s : Collector) : Type 0 where
  pub sound : IsSound resolved s
  pub seen : (c : Closed) → Occurs resolved c → IsSeen c s

-- what the search may answer
abbrev pub Closing : Resolved → Collector → Result Unit Stop → Type 0
Closing resolved s (Ok u) = IsClosed resolved s
Closing resolved s (Err stop.Full) = PassesTypes resolved
Closing resolved s (Err stop.Memory) = Unit {0}
