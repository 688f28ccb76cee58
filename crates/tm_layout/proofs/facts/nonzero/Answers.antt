use Rattle.std.proofs.Common.{sym, subst}
use Rattle.tm_base.specs.Expanded.{nonzero}
use Rattle.tm_layout.specs.Known.{IsFactsOf}
use Rattle.tm_layout.proofs.FactLemmas.{nonzero-facts}
use Rattle.tm_layout.proofs.facts.nonzero.Goals as goal

pub returns : goal.returns
returns c = subst (IsFactsOf (nonzero c.args.profile c.args.p)) (sym c.whole.ensures) (nonzero-facts c.args.profile c.args.p c.primitive_size-size.result c.primitive_size-size.ensures)
