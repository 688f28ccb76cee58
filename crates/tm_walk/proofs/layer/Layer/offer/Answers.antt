use Rattle.std.proofs.Common.{◌∙◌, sym}
use Rattle.tm_walk.specs.Numbers.{reached_entry, pairs_in}
use Rattle.tm_walk.proofs.LayerLemmas.{offered_again, offered_second}
use Rattle.tm_walk.proofs.layer.Layer.offer.Goals as goal

pub returns-then-has_sets_of : goal.returns-then-has_sets_of
returns-then-has_sets_of c =
    let same = c.has_sets_of.ensures.0 c.if-has_sets_of.true in
    rw (← c.self.view_is) (offered_again c.self.inside.only c.in-Some-take.only (pairs_in c.self.inside.several) (reached_entry c.args.pair) (sym c.take.ensures.value ∙ c.in-Some-take.is) same.0 same.1)

pub returns : goal.returns
returns c =
    rw (← c.self.view_is) (offered_second c.self.inside.only c.take.new.self c.in-Some-take.only (pairs_in c.self.inside.several) _ (reached_entry c.args.pair) (sym c.take.ensures.value ∙ c.in-Some-take.is) c.take.ensures.after c.in_ok-both.ensures)
