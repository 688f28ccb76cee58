use Rattle.std.proofs.Common.{◌≤◌, List, length, subst, sym}
use Rattle.tm_base.specs.Worlds.{tables_of}
use Rattle.tm_run.specs.Matches.{IsMatch}
use Rattle.tm_run.specs.declared.matched.Match.{Match}
use Rattle.tm_run.proofs.answers.AnswerLemmas.{zip-few}
use Rattle.tm_run.proofs.reported.matched.Goals as goal

pub match_lines-requires : goal.match_lines-requires
match_lines-requires c =
    let world = c.args.world.now in
    subst (λ (matches : List Match). length matches ≤ 256) (sym c.deref.ensures.value)
    (zip-few (IsMatch (tables_of world) c.args.bytes.now) world c.in_ok-matches.matches.items c.in_ok-matches.ensures)
