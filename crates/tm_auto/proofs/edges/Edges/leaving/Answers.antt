use Rattle.tm_auto.proofs.FirstLemmas.{first_le, between}
use Rattle.tm_auto.proofs.edges.Edges.leaving.Goals as goal

pub slice_bounds-result-start : goal.slice_bounds-result-start
slice_bounds-result-start c = first_le c.args.state c.args.self.now _ _ c.first-first.ensures c.first-end.ensures

pub slice_bounds-result-count : goal.slice_bounds-result-count
slice_bounds-result-count c = first_le c.args.state c.args.self.now _ _ c.first-first.ensures c.first-end.ensures

pub returns : goal.returns
returns c = rw (c.deref.ensures.value, c.self.view_is) (between c.args.state c.args.self.now _ _ c.first-first.ensures c.first-end.ensures)
