use Rattle.tm_base.specs.Transmutes.{holds}
use Rattle.tm_base.proofs.ValidLemmas.{Valid-grows}
use Rattle.tm_base.proofs.laws.validity_grows.Goals as goal

pub returns : goal.returns
returns c = λ A B keep more over opened t w h. Valid-grows (holds A) (holds B) keep more over opened t w h
