use Rattle.std.proofs.Common.{◌∙◌, sym}
use Rattle.tm_run.proofs.answers.CourtLemmas.{same-flags, table-found}
use Rattle.tm_run.proofs.court.solved.place_of.Goals as goal

pub returns-then-eq : goal.returns-then-eq
returns-then-eq c = λ tables solved.
    table-found tables c.args.solved.now c.loop-place.place c.index-solved-place.result solved c.loop-place-test.true c.index-solved-place.is
    c.assume.result c.args.assume c.assume.ensures
    (same-flags c.assume.result c.args.assume (sym c.eq.ensures ∙ c.if-eq.true))
