use Rattle.std.proofs.Common.{◌≤◌, All, List, length, subst, sym}
use Rattle.tm_base.specs.Worlds.{tables_of}
use Rattle.tm_run.specs.Needs.{HasRefusal, IsNeed}
use Rattle.tm_run.specs.declared.reported.need.Need.{Need}
use Rattle.tm_run.proofs.answers.AnswerLemmas.{zip-few}
use Rattle.tm_run.proofs.answers.NeedLemmas.{need-refusal}
use Rattle.tm_run.proofs.answers.VerdictLemmas.{zip-all}
use Rattle.tm_run.proofs.reported.needed.Goals as goal

pub need_lines-requires-clause-refusals : goal.need_lines-requires-clause-refusals
need_lines-requires-clause-refusals g c =
    let world = c.args.world.now in
    subst (λ (needs : List Need). All HasRefusal needs) (sym c.deref.ensures.value)
    (zip-all (IsNeed (tables_of world)) HasRefusal (need-refusal (tables_of world)) world.questions c.in_ok-needs.needs.items c.in_ok-needs.ensures)

pub need_lines-requires-clause-few : goal.need_lines-requires-clause-few
need_lines-requires-clause-few g c =
    let world = c.args.world.now in
    subst (λ (needs : List Need). length needs ≤ 256) (sym c.deref.ensures.value)
    (zip-few (IsNeed (tables_of world)) world c.in_ok-needs.needs.items c.in_ok-needs.ensures)
