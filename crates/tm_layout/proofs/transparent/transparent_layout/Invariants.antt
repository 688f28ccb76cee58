use Rattle.std.proofs.Common.{◌≡◌, drop}
use Rattle.tm_base.specs.Layout.{transparent_layout}
use Rattle.tm_layout.specs.Reckoned.{layouts_in}
use Rattle.tm_layout.proofs.transparent.transparent_layout.Given as goal

-- the first fields are of size 0 and alignment 1
abbrev pub invariant-loop-field : goal.invariant-loop-field
invariant-loop-field l = transparent_layout (layouts_in (drop l.field-index l.fields)) ≡ transparent_layout (layouts_in l.fn.fields)
