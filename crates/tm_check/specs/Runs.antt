-- Runs of cells, and how a run begins what stands there in memory.
use Rattle.std.specs.Prelude.{◌++◌, replicate}
use Rattle.tm_base.specs.declared.cell.Cell.TheVariants.{Uninit}
use Rattle.tm_base.specs.Cells.{Word}
use Rattle.tm_check.specs.declared.run.Run.{Run}

-- the cells that a run stands for: those that are told, and uninitialised ones behind them
abbrev pub word_of : Run → Word
word_of run = run.told.now ++ replicate run.uninit Uninit
