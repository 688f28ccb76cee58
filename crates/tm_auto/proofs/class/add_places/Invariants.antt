use Rattle.std.proofs.Common.{◌≡◌, ◌++◌}
use Rattle.tm_auto.specs.Classes.{places_of}
use Rattle.tm_auto.proofs.class.add_places.Given as goal

abbrev pub invariant-loop-place : goal.invariant-loop-place
invariant-loop-place l = l.symbols ≡ l.initial.symbols ++ places_of l.labels l.id l.place
