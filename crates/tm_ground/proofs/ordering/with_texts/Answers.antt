use Rattle.std.proofs.Common.{sym, subst, All}
use Rattle.std.proofs.lemmas.List.Elements.{All-push}
use Rattle.tm_ground.specs.Closed.{closed}
use Rattle.tm_ground.specs.Sets.{closed_types}
use Rattle.tm_ground.specs.Texted.{HasItsText}
use Rattle.tm_ground.proofs.numbers.NumberLemmas.{contains-map}
use Rattle.tm_ground.proofs.world.OrderLemmas.{types-more}
use Rattle.tm_ground.proofs.ordering.with_texts.Goals as goal

pub with_text-requires : goal.with_text-requires
with_text-requires c = c.requires.each _ (contains-map closed c.args.types.now c.loop-ty.ty-index c.ty-item.result c.loop-ty-test.true c.ty-item.is)

pub loop-ty-preserved : goal.loop-ty-preserved
loop-ty-preserved c = (
  types-more c.args.types.now c.loop-ty.ty-index c.loop-ty.all.items _ c.ty-item.result c.in_ok-with_text.field-0 c.loop-ty-test.true c.ty-item.is c.loop-ty.invariant.0 c.in_ok-with_text.ensures.same c.in_ok-push.ensures.items,
  subst (All (HasItsText (closed_types c.args.found.now.named) (closed_types c.args.found.now.refs) c.args.world.now)) (sym c.in_ok-push.ensures.items)
      (All-push (HasItsText (closed_types c.args.found.now.named) (closed_types c.args.found.now.refs) c.args.world.now) c.loop-ty.all.items c.in_ok-with_text.field-0 c.loop-ty.invariant.1 c.in_ok-with_text.ensures.text),
)
