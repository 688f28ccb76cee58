use Rattle.tm_base.proofs.LayoutLemmas.{struct_places-apart}
use Rattle.tm_base.proofs.laws.fields_stand_apart.Goals as goal

pub returns : goal.returns
returns c = struct_places-apart
