-- The table of pairs of references: in the row of a source reference, what is known of it and each target
-- reference.
use Rattle.std.specs.Prelude.{ℕ, ◌==◌, ◌&&◌, nat_lt, Bool, true, is_none, if◌then◌else◌, Option, None, Some, List, [], slice_index_or}
use Rattle.tm_base.specs.declared.answer.LocalRule.{LocalRule}
use Rattle.tm_refs.specs.declared.pair.Pair.{Pair}
use Rattle.tm_refs.specs.declared.standing.Standing.{Standing}
use Rattle.tm_refs.specs.declared.standing.Standing.TheVariants.{Holds, Unjudged, Breaks, Fails}

-- the least number of levels of pointees that speak against two references
abbrev pub depth_of : Standing → Option ℕ
depth_of Holds = None
depth_of Unjudged = Some 0
depth_of (Breaks rule) = Some 0
depth_of (Fails depth) = Some depth

-- the first local rule that they break
abbrev pub rule_of : Standing → Option LocalRule
rule_of Holds = None
rule_of Unjudged = None
rule_of (Breaks rule) = Some rule
rule_of (Fails depth) = None

-- so many levels don't speak against them
abbrev pub is_deeper : ℕ → Option ℕ → Bool
is_deeper n None = true
is_deeper n (Some depth) = nat_lt n depth

abbrev pub stands_to : ℕ → Standing → Bool
stands_to n standing = is_deeper n (depth_of standing)

-- what is known of two references; nothing stands outside the table
abbrev pub standing_in : List (List Standing) → ℕ → ℕ → Standing
standing_in rows r t = slice_index_or (slice_index_or rows r []) t Unjudged

-- what is known of a pair
abbrev pub standing_of : List (List Standing) → Pair → Standing
standing_of rows pair = standing_in rows pair.source.0 pair.target.0

-- no level that was looked at speaks against the pair
abbrev pub is_held : List (List Standing) → Pair → Bool
is_held rows pair = is_none (depth_of (standing_of rows pair))

-- what is known of two references once a pair is lost at a depth
abbrev pub standing_after : List (List Standing) → Pair → ℕ → ℕ → ℕ → Standing
standing_after rows pair depth r t = if (r == pair.source.0) && (t == pair.target.0) then Fails depth else standing_in rows r t
