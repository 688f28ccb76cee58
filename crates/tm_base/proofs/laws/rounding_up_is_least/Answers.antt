use Rattle.tm_base.proofs.LayoutLemmas.{round_up-least}
use Rattle.tm_base.proofs.laws.rounding_up_is_least.Goals as goal

pub returns : goal.returns
returns c = round_up-least
