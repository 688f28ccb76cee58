-- The types of a list and of a set.
use Rattle.std.specs.Prelude.{List, map}
use Rattle.tm_names.specs.declared.resolved.Open.{Open}
use Rattle.tm_ground.specs.Closed.{Closed, closed}

-- written types without parameters, as closed types; a set is the list of those in it
abbrev pub closed_types : List Open → List Closed
closed_types = map closed
