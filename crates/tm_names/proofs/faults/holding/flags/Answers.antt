use Rattle.std.proofs.Common.{arith, refl}
use Rattle.std.proofs.lemmas.List.FromFn.{map-range_with_len_more}
use Rattle.tm_names.specs.Held.{is_number_among}
use Rattle.tm_names.proofs.faults.holding.flags.Goals as goal

pub loop-number-preserved : goal.loop-number-preserved
loop-number-preserved c =
    let more = map-range_with_len_more (is_number_among c.args.numbers.now) 0 c.loop-number.number c.loop-number.number (omega arith) in
    rw (c.in_ok-add.ensures, c.is_number_among-held.ensures, c.loop-number.invariant, more) refl
