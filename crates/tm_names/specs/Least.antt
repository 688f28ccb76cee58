-- The first of some faults.
use Rattle.std.specs.Prelude.{ℕ, ◌==◌, nat_lt, nat_le, Bool, true, false, ◌&&◌, ◌||◌, if◌then◌else◌, Option, Some, None, List, [], ◌∷◌}
use Rattle.std.specs.List.{fold}
use Rattle.tm_base.specs.declared.limit.NameWhy.{NameWhy}
use Rattle.tm_names.specs.declared.faults.least.NameFault.{NameFault}
use Rattle.tm_names.specs.Ranks.{rank}

-- the fault stands at an earlier token, or at the same one and is of no later kind
abbrev pub is_no_later : NameFault → NameFault → Bool
is_no_later fault other = nat_lt fault.place other.place || ((fault.place == other.place) && nat_le (rank fault.why) (rank other.why))

-- the first so far, and where one more is found
abbrev pub keep : Option NameFault → NameFault → Option NameFault
keep None fault = Some fault
keep (Some first) fault = if is_no_later first fault then Some first else Some fault

abbrev pub earliest : Option NameFault → List NameFault → Option NameFault
earliest = fold keep

-- a fault where something is wrong
abbrev pub fault_where : Bool → NameWhy → ℕ → List NameFault
fault_where true why place = record { why = why; place = place } ∷ []
fault_where false why place = []
