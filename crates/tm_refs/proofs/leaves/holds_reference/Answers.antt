use Rattle.std.proofs.Common.{◌∙◌, sym}
use Rattle.tm_refs.proofs.ServesLemmas.{marked, mark-found}
use Rattle.tm_refs.proofs.leaves.holds_reference.Goals as goal

pub returns : goal.returns
returns c = (
  λ some. let (x, here) = marked c.leaves_of.result (sym c.contains.ensures.value ∙ some) in (x, sym (c.leaves_of.ensures x) ∙ here),
  λ (x, leaf). c.contains.ensures.value ∙ mark-found c.leaves_of.result x (c.leaves_of.ensures x ∙ leaf),
)
