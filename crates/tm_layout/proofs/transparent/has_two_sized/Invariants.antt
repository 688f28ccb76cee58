use Rattle.std.proofs.Common.{◌≡◌, ◌+◌, if◌then◌else◌, drop}
use Rattle.tm_base.specs.Faults.{sized_count}
use Rattle.tm_layout.specs.Reckoned.{layouts_in}
use Rattle.tm_layout.proofs.transparent.has_two_sized.Given as goal

-- those that were found and those that are left make all
abbrev pub invariant-loop-field : goal.invariant-loop-field
invariant-loop-field l = (if l.found then 1 else 0) + sized_count (layouts_in (drop l.field-index l.fields)) ≡ sized_count (layouts_in l.fn.fields)
