use Rattle.std.proofs.Common.{◌==◌, ◌&&◌, ◌||◌, ◌∙◌, ◌≡◌, Bool, true, false, refl, ap, cond, Option, Some}
use Rattle.std.specs.Prelude.{is_some}
use Rattle.std.specs.HashMap.{get_by}
use Rattle.tm_refute.proofs.refuting.asked.Asked.add.Goals as goal

put : (b : Bool) (v : Bool) (old : Option Bool) → is_some (cond b (Some v) old) ≡ (b || is_some old)
put true v old = refl
put false v old = refl

pub returns : goal.returns
returns c = λ r t.
    let old = get_by (λ pair. (r == pair.0) && (t == pair.1)) c.args.self.now.pairs in
    ap is_some (c.in_ok-insert.ensures.updates.0 (r, t)) ∙ put _ _ old
