use Rattle.std.proofs.Common.{◌≡◌, ◌==◌, ◌∙◌, ap, refl}
use Rattle.std.specs.Ordering.{is_lt, ordering_index}
use Rattle.std.specs.declared.cmp.Ordering.{Ordering}
use Rattle.std.specs.declared.cmp.Ordering.TheVariants.{Less, Equal, Greater}
use Rattle.tm_layout.proofs.TextLemmas.{text_less-compared}
use Rattle.tm_layout.proofs.refused.stands_before.Goals as goal

is_less : (order : Ordering) → (ordering_index order == 0) ≡ is_lt order
is_less Less = refl
is_less Equal = refl
is_less Greater = refl

pub returns : goal.returns
returns c = c.eq.ensures ∙ is_less c.cmp.result ∙ ap is_lt c.cmp.ensures ∙ text_less-compared c.args.text.now c.args.other.now
