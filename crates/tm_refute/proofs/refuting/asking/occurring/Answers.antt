use Rattle.std.proofs.Common.{◌∙◌, refl}
use Rattle.tm_refs.proofs.AddedLemmas.{any-all, blank}
use Rattle.tm_refute.specs.Asking.{is_of}
use Rattle.tm_refute.proofs.making.AskingLemmas.{marked-more}
use Rattle.tm_refute.proofs.refuting.asking.occurring.Goals as goal

pub loop-cell-init : goal.loop-cell-init
loop-cell-init c = record { room = refl; marked = λ r below. blank r }

pub loop-cell-preserved : goal.loop-cell-preserved
loop-cell-preserved c = record {
  room = c.mark.ensures.room;
  marked = λ r below. marked-more c.args.cells.now c.loop-cell.cell-index _ c.loop-cell.found c.mark.new.found r c.loop-cell-test.true (c.mark.ensures.marked r below) (c.loop-cell.invariant.marked r below);
}

pub returns : goal.returns
returns c = λ r below. c.loop-cell.invariant.marked r below ∙ any-all is_of c.args.cells.now c.loop-cell.cell-index c.loop-cell-test.false r
