use Rattle.tm_walk.proofs.MeaningLemmas.{exists_none, exists_found}
use Rattle.tm_walk.proofs.laws.exists_seeks_examples.Goals as goal

pub returns-clause-none : goal.returns-clause-none
returns-clause-none c = λ A. exists_none A c.args.src.now c.args.dst.now c.law.ensures.automaton c.law-2.ensures.automaton c.law-2.ensures.reads

pub returns-clause-found : goal.returns-clause-found
returns-clause-found c = λ A. exists_found A c.args.src.now c.args.dst.now c.law.ensures.automaton c.law-2.ensures.automaton c.law-2.ensures.reads
