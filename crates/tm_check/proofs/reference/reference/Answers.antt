use Rattle.std.proofs.Common.{sym, ◌∙◌}
use Rattle.tm_check.specs.Runs.{word_of}
use Rattle.tm_check.proofs.RunLemmas.{refs-long, refs-told}
use Rattle.tm_check.proofs.reference.reference.Goals as goal
use Rattle.tm_check.proofs.reference.reference.Goals.{then-run-gt0-via-then-run-gt0, then-run-gt0-via-else-run-gt0+then-not-is_within}

pub returns-then-run-gt0 : goal.returns-then-run-gt0
returns-then-run-gt0 g c =
    let A = g.M.RefTest.test c.args.refs.now in
    elim c.then-run-gt0.branch [
      | then-run-gt0-via-then-run-gt0 w ↦ sym (refs-told A c.args.size c.args.target.0 c.args.run.uninit c.args.run.told.now w.if-run-gt0.true)
      | then-run-gt0-via-else-run-gt0+then-not-is_within w ↦
          sym (refs-long A c.args.size c.args.target.0 (word_of c.args.run) (sym w.is_within.ensures ∙ w.if-not-is_within.true) (sym c.is_empty.ensures ∙ c.if-is_empty.false))
    ]
