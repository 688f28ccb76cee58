use Rattle.std.proofs.Common.{◌≡◌, ◌∙◌, ℕ, List, ◌++◌, append_assoc, codes}
use Rattle.std.specs.Fmt.{decimal}
use Rattle.tm_report.specs.FaultLines.{line_end}
use Rattle.tm_run.proofs.reported.marks.row_text.Goals as goal

pub returns : goal.returns
returns c = c.from.ensures ∙ c.in_ok-text.ensures.ok
    ∙ grouped (decimal c.args.number) (codes ": ") c.args.name.now (codes " from ") c.args.from.now (codes " to ") c.args.to.now (codes " ") c.args.cells.now line_end
  where
    grouped : (a b c d e f g h i j : List ℕ) → a ++ (b ++ (c ++ (d ++ (e ++ (f ++ (g ++ (h ++ (i ++ j)))))))) ≡ a ++ b ++ c ++ d ++ e ++ f ++ g ++ h ++ i ++ j
    grouped a b c d e f g h i j = simp append_assoc
