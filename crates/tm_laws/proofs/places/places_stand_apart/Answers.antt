use Rattle.tm_laws.proofs.fields.PlacesTypes.{places-stand_apart}
use Rattle.tm_laws.proofs.places.places_stand_apart.Goals as goal

pub returns : goal.returns
returns c = places-stand_apart
