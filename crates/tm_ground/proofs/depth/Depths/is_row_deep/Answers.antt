use Rattle.std.proofs.Common.{◌||◌, ◌∙◌, rules, tests, sym, ap}
use Rattle.std.specs.List.{list_any}
use Rattle.std.proofs.lemmas.Iterator.{YieldsList-from_slice}
use Rattle.std.proofs.lemmas.Iterator.Search.{any_from_yields_List}
use Rattle.tm_ground.specs.Depths.{is_deep}
use Rattle.tm_ground.proofs.depth.Depths.is_row_deep.Goals as goal

pub returns-else-are_deep : goal.returns-else-are_deep
returns-else-are_deep c =
    let deep = is_deep c.args.self.now.tables in
    let row = c.args.row.now in
    any_from_yields_List (list_any deep) _ _ _ c.any.ensures.ran (YieldsList-from_slice row.types cc) (λ x b q k. search (rules, tests))
    ∙ ap (λ b. b || list_any (list_any deep) row.types) (sym (sym (rw c.as_slice.ensures at c.are_deep.ensures) ∙ c.if-are_deep.false))
