use Rattle.std.proofs.Common.{◌∙◌, Contains}
use Rattle.tm_ground.proofs.finding.SetLemmas.{numbers_in, code-new, codes-added, without-last}
use Rattle.tm_ground.proofs.type_set.TypeSet.push.Goals as goal

pub invariant_of-self-in-Ok : goal.invariant_of-self-in-Ok
invariant_of-self-in-Ok c =
    let absent : ¬ Contains (numbers_in c.self.inside.keys.keys) c.args.code.numbers.items = rw (c.self.invariant, c.self.view_is) c.requires.absent in
    let keys = c.in_ok-insert.ensures.keys ∙ code-new c.args.code c.self.inside.keys.keys absent in
    rw (keys, c.in-Ok.ensures.added) (codes-added c.self.inside.keys.keys c.self.inside.types c.args.code c.args.ty c.self.invariant c.requires.code)

pub invariant_of-self-in-Err : goal.invariant_of-self-in-Err
invariant_of-self-in-Err c =
    let absent : ¬ Contains (numbers_in c.self.inside.keys.keys) c.args.code.numbers.items = rw (c.self.invariant, c.self.view_is) c.requires.absent in
    let keys = c.in_ok-insert.ensures.keys ∙ code-new c.args.code c.self.inside.keys.keys absent in
    let kept = without-last _ c.self.inside.keys.keys c.pop.new.self.keys c.args.code c.pop.result keys c.pop.ensures.keys c.pop.ensures.found in
    rw (kept, c.in-Err.ensures.kept) c.self.invariant
