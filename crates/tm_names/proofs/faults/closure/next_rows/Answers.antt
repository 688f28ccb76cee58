use Rattle.std.proofs.Common.{◌≡◌, ◌∙◌, ap, subst, [], map}
use Rattle.std.specs.Prelude.{IfOk}
use Rattle.tm_names.proofs.holding_laws.RowLemmas.{same_row}
use Rattle.tm_names.specs.Closures.{next_row}
use Rattle.tm_names.specs.Held.{bit_at, row_at}
use Rattle.tm_names.proofs.faults.closure.next_rows.Goals as goal

pub returns : goal.returns
returns c =
    let copied = c.in_ok-other.ensures ∙ same_row [] 0 c.row_at.result.now in
    let other = c.as_slice-2.ensures ∙ (copied ∙ (c.row_at.ensures ∙ ap (λ rows. row_at rows c.args.through) c.as_slice.ensures.value)) in
    subst (λ those. IfOk c.all_led_on.result (λ next. next.items ≡ map (λ row. next_row (bit_at row c.args.through) row those) c.args.rows.items)) other c.all_led_on.ensures
