use Rattle.tm_laws.proofs.fields.StructLemmas.{struct-by-places}
use Rattle.tm_laws.proofs.places.structs_hold_their_fields.Goals as goal

pub returns : goal.returns
returns c = struct-by-places
