use Rattle.std.proofs.lemmas.Option.{unwrap_or-slice_get}
use Rattle.tm_base.specs.declared.cell.Cell.TheVariants.{Uninit}
use Rattle.tm_base.proofs.CellLemmas.{fit-more}
use Rattle.tm_witness.proofs.words.fit.Goals as goal

pub loop-place-preserved : goal.loop-place-preserved
loop-place-preserved c =
    let more = fit-more c.args.word.now c.loop-place.place in
    let at = unwrap_or-slice_get c.args.word.now c.loop-place.place Uninit in
    cc (c.in_ok-add.ensures.added)
