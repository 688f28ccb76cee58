use Rattle.tm_laws.proofs.fields.EnumLemmas.{enum-by-places}
use Rattle.tm_laws.proofs.places.enums_hold_their_fields.Goals as goal

pub returns : goal.returns
returns c = enum-by-places
