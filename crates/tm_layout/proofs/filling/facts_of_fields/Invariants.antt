use Rattle.std.proofs.Common.{◌≡◌, take}
use Rattle.tm_base.specs.Tables.{Tables}
use Rattle.tm_layout.specs.Made.{AreRowsOf, EachIs, IsKnown}
use Rattle.tm_layout.specs.Making.{AreFactsFor}
use Rattle.tm_layout.proofs.filling.facts_of_fields.Given as goal

abbrev pub invariant-loop-g : goal.invariant-loop-g
invariant-loop-g l = (tables : Tables) → l.profile ≡ tables.profile → AreRowsOf tables l.rows → EachIs (IsKnown tables l.rows) l.types → AreFactsFor tables (take l.g-index l.types) l.facts
