use Rattle.std.proofs.Common.{subst, Contains}
use Rattle.std.proofs.lemmas.List.{nil_from_length}
use Rattle.tm_base.proofs.JudgedLemmas.{Contains-none}
use Rattle.tm_walk.proofs.pairs.Pairs.new.Goals as goal

pub invariant_of-result : goal.invariant_of-result
invariant_of-result c = λ row m. let e = nil_from_length c.new-3.result.entries c.new-3.ensures.len in absurd (Contains-none _ (subst (λ rows. Contains rows row) e m))
