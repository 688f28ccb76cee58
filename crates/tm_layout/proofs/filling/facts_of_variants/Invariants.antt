use Rattle.std.proofs.Common.{◌≡◌, take}
use Rattle.tm_base.specs.Tables.{Tables}
use Rattle.tm_layout.specs.Made.{AreRowsOf}
use Rattle.tm_layout.specs.Making.{AreFactsFor, AreKnown, EachMatches}
use Rattle.tm_layout.proofs.filling.facts_of_variants.Given as goal

abbrev pub invariant-loop-types : goal.invariant-loop-types
invariant-loop-types l = (tables : Tables) → l.profile ≡ tables.profile → AreRowsOf tables l.rows → AreKnown tables l.rows l.variants → EachMatches (AreFactsFor tables) (take l.types-index l.variants) l.facts
