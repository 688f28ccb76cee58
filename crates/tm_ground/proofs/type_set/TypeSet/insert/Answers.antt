use Rattle.std.proofs.Common.{◌≢◌, ◌∙◌, ◌∷◌, ◌++◌, [], sym, ap, subst, length}
use Rattle.std.proofs.lemmas.List.{length-map}
use Rattle.tm_ground.specs.Closed.{closed}
use Rattle.tm_ground.specs.Growing.{Adds}
use Rattle.tm_ground.specs.Sets.{closed_types}
use Rattle.tm_ground.proofs.finding.GrowLemmas.{adds-present, adds-new, overflows-new, contains-from_get}
use Rattle.tm_ground.proofs.finding.SetLemmas.{type-at, not-there}
use Rattle.tm_ground.proofs.type_set.TypeSet.insert.Goals as goal

pub returns-in-Some : goal.returns-in-Some
returns-in-Some c = adds-present c.args.limit _ _ (contains-from_get (closed_types c.args.self.now) c.in-Some.field-0 _ (type-at (closed_types c.args.self.now) c.in-Some.field-0 _ (rw c.in-Ok.ensures at c.in-Some.ensures.found)))

pub returns-then-len-limit : goal.returns-then-len-limit
returns-then-len-limit c =
    let absent = not-there _ _ _ c.in-Ok.ensures c.in-None.ensures.absent in
    let full = length-map c.args.self.now closed ∙ ap length (sym c.self.view_is) ∙ sym c.len.ensures ∙ c.if-len-limit.true in
    overflows-new c.args.limit _ _ absent full

pub returns-in-Ok-push : goal.returns-in-Ok-push
returns-in-Ok-push c =
    let absent = not-there _ _ _ c.in-Ok.ensures c.in-None.ensures.absent in
    let room : length (closed_types c.args.self.now) ≢ c.args.limit = λ e. c.if-len-limit.false (c.len.ensures ∙ ap length c.self.view_is ∙ sym (length-map c.args.self.now closed) ∙ e) in
    let grown = c.in-Ok-push.ensures ∙ ap (λ x. closed_types c.args.self.now ++ x ∷ []) c.in-Ok-fixed.ensures in
    subst (λ new. Adds c.args.limit (closed_types c.args.self.now) (closed c.args.ty.now ∷ []) new) (sym grown) (adds-new c.args.limit _ _ absent room)
