use Rattle.std.proofs.Common.{take}
use Rattle.std.specs.List.{AllZip}
use Rattle.tm_ground.specs.Rows.{IsRefRow}
use Rattle.tm_ground.specs.Sets.{closed_types}
use Rattle.tm_ground.proofs.rows.ref_rows.Given as goal

-- the rows made so far are of the first types
abbrev pub invariant-loop-ty : goal.invariant-loop-ty
invariant-loop-ty l = AllZip (IsRefRow (closed_types l.found.named) (closed_types l.found.refs)) (closed_types (take l.ty-index l.ty-items)) l.rows
