use Rattle.std.proofs.Common.{◌≡◌, ◌||◌, ◌∙◌, true≢false, false, rules, tests, sym, ap}
use Rattle.std.specs.List.{list_any}
use Rattle.std.proofs.lemmas.Bool.{or_from}
use Rattle.std.proofs.lemmas.Iterator.{YieldsList-from_slice}
use Rattle.std.proofs.lemmas.Iterator.Search.{any_from_yields_List}
use Rattle.tm_base.specs.declared.definition.RefRow.{RefRow}
use Rattle.tm_ground.specs.Depths.{is_ask_deep, is_deep, is_row_deep}
use Rattle.tm_ground.proofs.depth.Depths.is_some_deep.Goals.{then-any, else-any}
use Rattle.tm_ground.proofs.depth.Depths.is_some_deep.Goals as goal

pub returns-else-any-2 : goal.returns-else-any-2
returns-else-any-2 c =
    let tables = c.args.self.now.tables in
    let rows = c.args.rows.now in
    let named = any_from_yields_List (is_row_deep tables) _ _ _ c.any.ensures.ran (YieldsList-from_slice rows.named cc) (λ x b q k. search (rules, tests)) in
    let shallow : (list_any (is_row_deep tables) rows.named || list_any (λ row. is_deep tables row.pointee) rows.refs) ≡ false =
    elim c.if-any.branch [
      | then-any w ↦ absurd (true≢false (sym w.if-any.true ∙ sym w.value-is ∙ c.if-any-2.false))
      | else-any w ↦
          let refs = any_from_yields_List (λ (row : RefRow). is_deep tables row.pointee) _ _ _ w.any-else-any.ensures.ran (YieldsList-from_slice rows.refs cc) (λ x b q k. search (rules, tests)) in
          or_from _ _ (sym named ∙ w.if-any.false) (sym refs ∙ sym w.value-is ∙ c.if-any-2.false)
    ]
    in
    any_from_yields_List (is_ask_deep tables) _ _ _ c.any-else-any-2.ensures.ran (YieldsList-from_slice rows.questions cc) (λ x b q k. search (rules, tests))
    ∙ ap (λ b. b || list_any (is_ask_deep tables) rows.questions) (sym shallow)
