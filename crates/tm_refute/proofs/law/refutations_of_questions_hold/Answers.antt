use Rattle.tm_refute.proofs.chosen.FewLemmas.{chosen-few}
use Rattle.tm_refute.proofs.chosen.HoldsLemmas.{chosen-refutes, is-refutable}
use Rattle.tm_refute.proofs.chosen.WritableLemmas.{chosen-writable}
use Rattle.tm_refute.proofs.law.refutations_of_questions_hold.Goals as goal
use Rattle.tm_base.specs.Worlds.{tables_of}

pub returns : goal.returns
returns c world ask x over_source over_target is = record {
  refutable = is-refutable (tables_of world) ask x is;
  refutes = chosen-refutes world ask x over_source is;
  few_entries = chosen-few world ask x is;
  writable = chosen-writable world ask x over_source is;
}
