use Rattle.std.proofs.Common.{sym, subst}
use Rattle.tm_base.specs.Expanded.{ref}
use Rattle.tm_layout.specs.Known.{IsFactsOf}
use Rattle.tm_layout.proofs.FactLemmas.{ref-facts}
use Rattle.tm_layout.proofs.facts.reference.Goals as goal

pub returns : goal.returns
returns c r = subst (IsFactsOf (ref c.args.profile r)) (sym c.whole.ensures) (ref-facts c.args.profile r c.pointer_size-size.result c.pointer_size-size.ensures)
