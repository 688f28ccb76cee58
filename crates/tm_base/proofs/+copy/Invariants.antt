use Rattle.std.proofs.Common.{◌≡◌, take}
use Rattle.tm_base.proofs.+copy.Given as goal

-- the copies made so far are of the first types
abbrev pub invariant-copy::copy_all-loop-item : goal.invariant-copy::copy_all-loop-item
invariant-copy::copy_all-loop-item l = l.copies ≡ take l.item-index l.types
