use Rattle.tm_refute.proofs.forms.GoingOnLemmas.{texts-apart}
use Rattle.tm_refute.proofs.law.texts_are_read_one_way.Goals as goal

pub returns : goal.returns
returns c = texts-apart
