use Rattle.tm_ground.proofs.world.OneWorldLemmas.{one-world}
use Rattle.tm_ground.proofs.laws.files_have_one_world.Goals as goal

pub returns : goal.returns
returns c = λ resolved form names one other b d. one-world resolved form names one other b d
