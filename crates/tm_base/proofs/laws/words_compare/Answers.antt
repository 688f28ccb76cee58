use Rattle.tm_base.proofs.OrderLemmas.{word_less-total}
use Rattle.tm_base.proofs.laws.words_compare.Goals as goal

pub returns : goal.returns
returns c = word_less-total
