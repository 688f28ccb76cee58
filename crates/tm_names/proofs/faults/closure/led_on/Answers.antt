use Rattle.std.proofs.Common.{◌∙◌, sym, ap}
use Rattle.tm_names.proofs.holding_laws.RowLemmas.{same_row}
use Rattle.tm_names.specs.Closures.{next_row}
use Rattle.tm_names.specs.Held.{bit_at}
use Rattle.tm_names.proofs.faults.closure.led_on.Goals as goal

pub returns : goal.returns
returns c =
    let off = sym (c.if-bit.ensures ∙ ap (λ row. bit_at row c.args.through) c.as_slice.ensures) in
    sym (ap (λ joins. next_row joins c.args.row c.args.other.now) off ∙ same_row c.args.other.now 0 c.args.row)
