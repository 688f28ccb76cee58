use Rattle.tm_walk.specs.Meanings.{EachWordFits, IsFirstRefusal, for_all_skips, for_all_stops}
use Rattle.tm_walk.specs.Refusals.{IsRefusalAnswer}
use Rattle.tm_walk.specs.Sought.{IsFound, NoneIsSought}
use Rattle.tm_walk.proofs.AnswerLemmas.{walk-answer}
use Rattle.tm_walk.proofs.refusal.first_refusal.Goals as goal

pub returns-clause-found : goal.returns-clause-found
returns-clause-found g c =
    let A = g.M.RefTest.test c.args.refs.now in
    let src = c.args.src.now in
    let dst = c.args.dst.now in
    walk-answer (NoneIsSought A src dst for_all_stops for_all_skips) (IsFound A src dst for_all_stops for_all_skips) (EachWordFits A src dst) (IsFirstRefusal A src dst)
    (c.for_all_seeks_refusals.ensures.none A).0 (c.for_all_seeks_refusals.ensures.found A)
    (IsRefusalAnswer A src dst) (λ each. each) (λ f first. first) c.walk.result c.walk.ensures.found c.walk.ensures.none
