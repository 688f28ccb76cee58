use Rattle.tm_ground.proofs.sizes.DepthLemmas.{TellsFirst}
use Rattle.tm_ground.proofs.depth.Depths.next_table.Given as goal

-- the flags made so far tell the depths of the first rows
abbrev pub invariant-loop-row : goal.invariant-loop-row
invariant-loop-row l = TellsFirst l.named l.number l.row-index l.table
