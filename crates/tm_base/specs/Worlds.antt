-- What a world says of its types.
use Rattle.std.specs.Prelude.{IsTrue}
use Rattle.tm_base.specs.declared.ground.Ground.{Ground}
use Rattle.tm_base.specs.declared.world.World.{World}
use Rattle.tm_base.specs.Tables.{Tables}
use Rattle.tm_base.specs.Whole.{is_type_over}

abbrev pub tables_of : World → Tables
tables_of world = record { profile = world.profile; defs = world.defs; regions = world.regions; bounds = world.bounds; named = world.named; refs = world.refs }

-- a type over the world: its numbers are the world's, and its depth by value is within the limit
abbrev pub IsTypeOver : Tables → Ground → Type 0
IsTypeOver tables g = IsTrue (is_type_over tables.profile tables.defs tables.named tables.refs g)
