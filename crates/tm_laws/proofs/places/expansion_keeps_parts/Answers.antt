use Rattle.tm_laws.proofs.fields.PartLemmas.{expansion-keeps_parts}
use Rattle.tm_laws.proofs.places.expansion_keeps_parts.Goals as goal

pub returns : goal.returns
returns c = expansion-keeps_parts c.args.world.now
