use Rattle.std.proofs.Common.{sym, subst}
use Rattle.tm_base.specs.Expanded.{prim}
use Rattle.tm_layout.specs.Known.{IsFactsOf}
use Rattle.tm_layout.proofs.FactLemmas.{primitive-facts}
use Rattle.tm_layout.proofs.facts.primitive.Goals as goal

pub returns : goal.returns
returns c = subst (IsFactsOf (prim c.args.profile c.args.p)) (sym c.whole.ensures) (primitive-facts c.args.profile c.args.p c.primitive_size-size.result c.primitive_size-size.ensures)
