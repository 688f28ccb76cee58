use Rattle.std.proofs.Common.{◌<◌, [], ◌∙◌, sym, subst, length}
use Rattle.std.proofs.lemmas.List.{get_or_default}
use Rattle.tm_refs.proofs.TableLemmas.{held-row, held-place, standing-put}
use Rattle.tm_refs.proofs.table.Table.lose.Goals as goal

pub returns-clause-lost : goal.returns-clause-lost
returns-clause-lost c =
    let rows = c.args.self.now.rows.items in
    let pair = c.args.pair in
    let inside = held-row rows pair c.requires.held in
    let same = c.index_mut-row.ensures.value ∙ get_or_default rows pair.source.0 c.index_mut-row.result.now [] inside in
    standing-put rows pair c.index_mut-row.result.now _ inside
    (subst (λ line. pair.target.0 < length line) (sym same) (held-place rows pair c.requires.held)) same
