use Rattle.std.proofs.Common.{arith, sym, ◌∙◌, ap, subst, ◌++◌, ◌+◌, drop, string_bytes}
use Rattle.std.specs.List.{All}
use Rattle.std.proofs.lemmas.List.{drop_more, take_all}
use Rattle.std.proofs.lemmas.List.Elements.{All-more}
use Rattle.tm_base.specs.Cells.{Word}
use Rattle.tm_report.specs.Runs.{unwritten}
use Rattle.tm_report.specs.WordTexts.{IsCell, pieces}
use Rattle.tm_report.proofs.cells.spaced_word.Goals as goal

pub loop-cell-preserved : goal.loop-cell-preserved
loop-cell-preserved c =
    let cells : Word = c.args.cells.now in
    let i = c.loop-cell.cell-index in
    record {
      written =
          c.in_ok-pending.ensures.written (pieces (drop (i + 1) cells))
          ∙ ap (λ (w : Word). string_bytes c.loop-cell.text ++ unwritten c.loop-cell.pending (pieces w)) (sym (drop_more cells i _ c.loop-cell-test.true))
          ∙ c.loop-cell.invariant.written;
      few = omega (arith, c.in_ok-pending.ensures.count, c.loop-cell.invariant.few);
      numbers = All-more IsCell cells i _ c.loop-cell-test.true c.loop-cell.invariant.numbers c.in_ok-pending.ensures.numbers;
    }

pub returns-clause-numbers : goal.returns-clause-numbers
returns-clause-numbers c =
    subst (λ (w : Word). All IsCell w) (take_all c.loop-cell.cell-index c.args.cells.now c.loop-cell-test.false) c.loop-cell.invariant.numbers
