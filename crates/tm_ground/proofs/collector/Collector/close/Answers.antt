use Rattle.std.proofs.Common.{◌≡◌, ◌∙◌, sym, ap, subst, arith, length, Some, slice_get}
use Rattle.std.proofs.lemmas.List.{length-map}
use Rattle.tm_ground.specs.Closed.{Closed, closed}
use Rattle.tm_ground.proofs.forms.OpenLemmas.{not-below}
use Rattle.tm_ground.proofs.finding.ClosingLemmas.{closed-get, closing-begins, closing-fails, closing-named, closing-step, closing-stops, closing-ends}
use Rattle.tm_ground.proofs.collector.Collector.close.Goals as goal

pub returns-in-Err : goal.returns-in-Err
returns-in-Err c = closing-fails c.args.resolved.now c.args.self.now c.add_asked.new.self c.in-Err.stop c.requires (rw c.as_slice.ensures at c.in-Err.ensures)

pub loop-place-init : goal.loop-place-init
loop-place-init c = closing-begins c.args.resolved.now c.args.self.now c.add_asked.new.self c.requires (rw c.as_slice.ensures at c.in-Ok.ensures)

pub add_inside-requires : goal.add_inside-requires
add_inside-requires c =
    let there = closed-get c.types.result.now c.loop-place.place c.in-Some.ty.now c.in-Some.ensures.lookup.3.0 c.in-Some.ensures.lookup.1 ∙ ap (λ (x : Closed). Some x) (sym c.in-Ok-fixed.ensures) in
    let at = subst (λ xs. slice_get xs c.loop-place.place ≡ Some (closed c.in-Ok-fixed.ty)) c.types.ensures there in
    closing-named c.args.resolved.now c.loop-place.place c.loop-place.self (closed c.in-Ok-fixed.ty) c.loop-place.invariant at

pub loop-place-preserved : goal.loop-place-preserved
loop-place-preserved c =
    let there = closed-get c.types.result.now c.loop-place.place c.in-Some.ty.now c.in-Some.ensures.lookup.3.0 c.in-Some.ensures.lookup.1 ∙ ap (λ (x : Closed). Some x) (sym c.in-Ok-fixed.ensures) in
    let at = subst (λ xs. slice_get xs c.loop-place.place ≡ Some (closed c.in-Ok-fixed.ty)) c.types.ensures there in
    closing-step c.args.resolved.now c.loop-place.place c.loop-place.self c.add_inside.new.self (closed c.in-Ok-fixed.ty) c.loop-place.invariant at c.in-Ok-add_inside.ensures

pub returns-in-Err-add_inside : goal.returns-in-Err-add_inside
returns-in-Err-add_inside c =
    let there = closed-get c.types.result.now c.loop-place.place c.in-Some.ty.now c.in-Some.ensures.lookup.3.0 c.in-Some.ensures.lookup.1 ∙ ap (λ (x : Closed). Some x) (sym c.in-Ok-fixed.ensures) in
    let at = subst (λ xs. slice_get xs c.loop-place.place ≡ Some (closed c.in-Ok-fixed.ty)) c.types.ensures there in
    closing-stops c.args.resolved.now c.loop-place.place c.loop-place.self c.add_inside.new.self (closed c.in-Ok-fixed.ty) c.in-Err-add_inside.stop c.loop-place.invariant at c.in-Err-add_inside.ensures

pub returns-in_default : goal.returns-in_default
returns-in_default c =
    let over = not-below c.loop-place.place (length c.types.result.now) c.in_default.ensures.lookup.0 in
    closing-ends c.args.resolved.now c.loop-place.place c.loop-place.self c.loop-place.invariant (omega (arith, over, length-map c.types.result.now closed, ap length c.types.ensures))

pub returns : goal.returns
returns c = closing-ends c.args.resolved.now c.loop-place.place c.loop-place.self c.loop-place.invariant (omega (arith, c.type_limit-place-end.ensures, c.loop-place-test.false, c.loop-place.invariant.sound.named.few))
