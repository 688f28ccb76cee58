use Rattle.tm_base.specs.Worlds.{tables_of}
use Rattle.tm_laws.proofs.fields.JudgedPlaces.{judged-places}
use Rattle.tm_laws.proofs.places.places_of_judged_types_stand_apart.Goals as goal

pub returns : goal.returns
returns c = judged-places (tables_of c.args.world.now)
