use Rattle.tm_refs.specs.Solved.{compatible_in}
use Rattle.tm_walk.specs.Meanings.{NoWordFits, IsLeastExample, exists_skips, exists_stops}
use Rattle.tm_walk.specs.Sought.{IsFound, NoneIsSought}
use Rattle.tm_judge.specs.Walks.{IsExampleAnswer}
use Rattle.tm_walk.proofs.AnswerLemmas.{walk-answer}
use Rattle.tm_judge.proofs.walks.least_example.Goals as goal

pub returns-clause-found : goal.returns-clause-found
returns-clause-found g c =
    let A = compatible_in c.args.compat.now in
    let src = c.args.src.now in
    let dst = c.args.dst.now in
    walk-answer (NoneIsSought A src dst exists_stops exists_skips) (IsFound A src dst exists_stops exists_skips) (NoWordFits A src dst) (IsLeastExample A src dst)
    (c.exists_seeks_examples.ensures.none A).0 (c.exists_seeks_examples.ensures.found A)
    (IsExampleAnswer A src dst) (λ none. none) (λ f least. least) c.walk.result c.walk.ensures.found c.walk.ensures.none
