use Rattle.std.proofs.Common.{sym}
use Rattle.tm_walk.proofs.PairLemmas.{read_row, read_entry}
use Rattle.tm_walk.proofs.pairs.Pairs.sets.Goals as goal

pub get-requires : goal.get-requires
get-requires c =
    let h = rw c.unwrap.ensures at c.get_index.ensures.entry in
    (read_row c.self.inside.sources c.self.inside.targets c.self.inside.pairs.entries c.args.place (c.unwrap.result.0.now, c.unwrap.result.1.now) (sym h) c.self.invariant).0

pub get-requires-2 : goal.get-requires-2
get-requires-2 c =
    let h = rw c.unwrap.ensures at c.get_index.ensures.entry in
    (read_row c.self.inside.sources c.self.inside.targets c.self.inside.pairs.entries c.args.place (c.unwrap.result.0.now, c.unwrap.result.1.now) (sym h) c.self.invariant).1

pub returns : goal.returns
returns c =
    let h = rw c.unwrap.ensures at c.get_index.ensures.entry in
    rw (← c.self.view_is) (read_entry c.self.inside.sources c.self.inside.targets c.self.inside.pairs.entries c.args.place (c.unwrap.result.0.now, c.unwrap.result.1.now) (sym h) _ _ c.get.ensures c.get-2.ensures)
