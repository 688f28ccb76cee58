use Rattle.std.proofs.Common.{◌≡◌, take, true}
use Rattle.std.specs.List.{list_all}
use Rattle.tm_base.specs.Profiles.{number_of}
use Rattle.tm_base.specs.ValidTest.{is_byte}
use Rattle.tm_check.proofs.number.number_of.Given as goal

-- the number of the cells so far, which are bytes
abbrev pub invariant-loop-count : goal.invariant-loop-count
invariant-loop-count l = (l.number ≡ number_of l.profile (take l.count l.cells)) × (list_all is_byte (take l.count l.cells) ≡ true)
