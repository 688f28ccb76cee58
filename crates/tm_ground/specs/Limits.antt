-- The limits on the closed types of a file, and which of them a file passes.
use Rattle.std.specs.Prelude.{◌≡◌, ℕ, zero, suc, ◌+◌, Bool, true, false, ◌&&◌, IsTrue, List, length, All}
use Rattle.std.specs.List.{list_any}
use Rattle.tm_base.specs.declared.limit.LimitKind.TheVariants.{NamedTypes, References, Depth}
use Rattle.tm_base.specs.Limits.{limit_number}
use Rattle.tm_base.specs.Whole.{AreDistinct}
use Rattle.tm_names.specs.declared.resolved.Resolved.{Resolved}
use Rattle.tm_ground.specs.declared.fault.GroundErr.{GroundErr}
use Rattle.tm_ground.specs.declared.fault.GroundErr.TheVariants as err
use Rattle.tm_ground.specs.Closed.{Closed, named, ref}
use Rattle.tm_ground.specs.Occurs.{Occurs, is_small, parts_by_value}

abbrev pub is_named : Closed → Bool
is_named (named def regions args) = true
is_named c = false

abbrev pub is_ref : Closed → Bool
is_ref (ref region mutable c) = true
is_ref c = false

-- a named type that has no more nodes than it may
abbrev pub is_small_named : Closed → Bool
is_small_named c = is_named c && is_small c

-- a type of some kind that occurs
pub record OccursAs (kind : Closed → Bool) (resolved : Resolved) (c : Closed) : Type 0 where
  pub of_kind : IsTrue (kind c)
  pub occurs : Occurs resolved c

-- more than n closed types are so: there are n + 1, no two of them one
pub record AreMoreThan (n : ℕ) (P : Closed → Type 0) : Type 0 where
  pub found : List Closed
  pub count : length found ≡ n + 1
  pub distinct : AreDistinct found
  pub each : All P found

-- The depth by value passes n. A type without parts has depth 1, any other one more than its deepest
-- part: so it passes 0, and one more than some part's depth passes.
unfoldable pub depth_passes : Resolved → ℕ → Closed → Bool
depth_passes resolved zero c = true
depth_passes resolved (suc n) c = list_any (depth_passes resolved n) (parts_by_value resolved c)

-- the limits, as far as their number goes
abbrev pub type_limit : ℕ
type_limit = limit_number NamedTypes

abbrev pub ref_limit : ℕ
ref_limit = limit_number References

abbrev pub depth_limit : ℕ
depth_limit = limit_number Depth

-- more named types occur than may, none of them with more nodes than a type may have
abbrev pub PassesTypes : Resolved → Type 0
PassesTypes resolved = AreMoreThan type_limit (OccursAs is_small_named resolved)

-- some type that occurs has more nodes than a type may have
pub record PassesNodes (resolved : Resolved) : Type 0 where
  pub greatest : Closed
  pub occurs : Occurs resolved greatest
  pub passes : is_small greatest ≡ false

-- more reference types occur than may
abbrev pub PassesRefs : Resolved → Type 0
PassesRefs resolved = AreMoreThan ref_limit (OccursAs is_ref resolved)

-- some type that occurs is deeper than a type may be
pub record PassesDepth (resolved : Resolved) : Type 0 where
  pub deepest : Closed
  pub occurs : Occurs resolved deepest
  pub passes : IsTrue (depth_passes resolved depth_limit deepest)

-- Of several limits that are passed the first is answered. Memory may be wanting at any time.
abbrev pub HasCause : Resolved → GroundErr → Type 0
HasCause resolved err.TooManyTypes = PassesTypes resolved
HasCause resolved err.TooManyNodes = (¬ PassesTypes resolved) × PassesNodes resolved
HasCause resolved err.TooManyRefs = (¬ PassesTypes resolved) × (¬ PassesNodes resolved) × PassesRefs resolved
HasCause resolved err.TooDeep = (¬ PassesTypes resolved) × (¬ PassesNodes resolved) × (¬ PassesRefs resolved) × PassesDepth resolved
HasCause resolved err.Memory = Unit {0}

-- no limit is passed
pub record IsWithinLimits (resolved : Resolved) : Type 0 where
  pub types : ¬ PassesTypes resolved
  pub nodes : ¬ PassesNodes resolved
  pub refs : ¬ PassesRefs resolved
  pub depth : ¬ PassesDepth resolved
