use Rattle.std.proofs.Common.{ℕ, List, get_or, ◌∙◌, sym, subst, Contains}
use Rattle.std.proofs.lemmas.List.Elements.{Contains-get_or}
use Rattle.tm_auto.proofs.OnlyLemmas.{only_item, edge_is}
use Rattle.tm_auto.proofs.only.only_edge.Goals as goal

pub edges-requires : goal.edges-requires
edges-requires c =
    let items = c.as_slice.result.now in
    c.requires (get_or items 0 0) (subst (λ (states : List ℕ). Contains states (get_or items 0 0)) c.as_slice.ensures.states (Contains-get_or items 0 0 c.in-len1.len_at_least))

pub returns-in-len1-edges : goal.returns-in-len1-edges
returns-in-len1-edges c =
    let one = only_item c.as_slice.result.now 0 c.in-len1.len_at_least c.in-len1.len_below in
    let single = only_item c.edges.result.now _ c.in-len1-edges.len_at_least c.in-len1-edges.len_below in
    rw (sym c.as_slice.ensures.states ∙ one) (edge_is c.args.auto.now _ _ (sym c.edges.ensures ∙ single))
