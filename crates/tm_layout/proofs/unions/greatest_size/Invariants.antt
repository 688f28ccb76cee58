use Rattle.std.proofs.Common.{◌≡◌, max, drop}
use Rattle.tm_base.specs.Layout.{greatest_size}
use Rattle.tm_layout.specs.Reckoned.{layouts_in}
use Rattle.tm_layout.proofs.unions.greatest_size.Given as goal

-- the greatest so far and that of the fields that are left make that of all
abbrev pub invariant-loop-field : goal.invariant-loop-field
invariant-loop-field l = max l.greatest (greatest_size (layouts_in (drop l.field-index l.fields))) ≡ greatest_size (layouts_in l.fn.fields)
