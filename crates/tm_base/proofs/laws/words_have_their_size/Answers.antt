use Rattle.tm_base.specs.Transmutes.{holds}
use Rattle.tm_base.proofs.ValidLemmas.{Valid-length}
use Rattle.tm_base.proofs.laws.words_have_their_size.Goals as goal

pub returns : goal.returns
returns c = λ A keep t w h. Valid-length (holds A) keep t w h
