use Rattle.std.proofs.Common.{sym, ◌∙◌, subst, take, ◌+◌}
use Rattle.tm_matrix.specs.Known.{grounds}
use Rattle.tm_matrix.specs.Matrix.{AreCells, IsMark, question}
use Rattle.tm_matrix.proofs.ZipLemmas.{AllZip-more}
use Rattle.tm_matrix.proofs.marks.cells.Goals as goal

pub loop-dst-preserved : goal.loop-dst-preserved
loop-dst-preserved g c =
    let tables = g.J.AskYes.told c.args.judge.now in
    let types = c.args.types.now in
    let src = c.args.src.now.ground in
    let i = c.loop-dst.dst-index in
    let mark = c.in_ok-mark_of.field-0 in
    record {
      cells =
          subst (λ zs. AreCells tables (grounds (take (i + 1) types)) src zs) (sym c.in_ok-add.ensures.added)
          (AllZip-more (λ h m. IsMark tables (question src h) m) (λ known. known.ground) types c.loop-dst.cells i c.dst-item.result mark c.loop-dst-test.true c.loop-dst.invariant.cells
          (subst (λ x. IsMark tables (question src x.ground) mark) c.dst-item.is
          (subst (λ t. IsMark t (question src c.dst-item.result.ground) mark) c.loop-dst.invariant.world c.in_ok-mark_of.ensures.mark)));
      world = c.in_ok-mark_of.ensures.world ∙ c.loop-dst.invariant.world;
    }
