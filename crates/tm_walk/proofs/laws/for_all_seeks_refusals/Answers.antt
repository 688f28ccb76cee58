use Rattle.tm_walk.proofs.MeaningLemmas.{for_all_none, for_all_found}
use Rattle.tm_walk.proofs.laws.for_all_seeks_refusals.Goals as goal

pub returns-clause-none : goal.returns-clause-none
returns-clause-none c = λ A. for_all_none A c.args.src.now c.args.dst.now c.law.ensures.automaton c.law-2.ensures.automaton c.law-2.ensures.reads

pub returns-clause-found : goal.returns-clause-found
returns-clause-found c = λ A. for_all_found A c.args.src.now c.args.dst.now c.law.ensures.automaton c.law-2.ensures.automaton c.law-2.ensures.reads
