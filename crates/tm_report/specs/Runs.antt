-- A run that is counted and not yet written.
use Rattle.std.specs.Prelude.{ℕ, Option, Some, None, List, flat_map}
use Rattle.tm_report.specs.declared.cells.Run.{Run}
use Rattle.tm_report.specs.WordTexts.{Piece, piece_texts, behind_spaces, run_before}

-- how many cells it has
abbrev pub counted : Option Run → ℕ
counted None = 0
counted (Some run) = run.count

-- what is still to be written where some pieces follow it, each text behind a space
abbrev pub unwritten : Option Run → List Piece → List ℕ
unwritten None rest = behind_spaces (flat_map piece_texts rest)
unwritten (Some run) rest = behind_spaces (flat_map piece_texts (run_before run.count run.cell rest))
