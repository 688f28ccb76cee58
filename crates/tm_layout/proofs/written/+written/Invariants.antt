use Rattle.std.proofs.Common.{◌≡◌, ◌||◌, drop}
use Rattle.tm_base.specs.Expanded.{elements}
use Rattle.tm_base.specs.Faults.{has_align}
use Rattle.tm_base.specs.Parts.{is_cell, some_field}
use Rattle.tm_base.specs.Tables.{Tables, expanded_in}
use Rattle.tm_layout.specs.Made.{AreRowsOf, EachIs, IsKnown}
use Rattle.tm_layout.proofs.written.+written.Given as goal

-- what was found, or what the other members give, is what all members give
abbrev pub invariant-facts_of_tuple-loop-member : goal.invariant-facts_of_tuple-loop-member
invariant-facts_of_tuple-loop-member l =
    (tables : Tables) → l.profile ≡ tables.profile → AreRowsOf tables l.rows → EachIs (IsKnown tables l.rows) l.members
    → ((l.aligned || some_field has_align (elements (expanded_in tables) (drop l.member-index l.members))) ≡ some_field has_align (elements (expanded_in tables) l.members))
    × ((l.interior || some_field is_cell (elements (expanded_in tables) (drop l.member-index l.members))) ≡ some_field is_cell (elements (expanded_in tables) l.members))
