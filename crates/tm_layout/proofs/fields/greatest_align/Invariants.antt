use Rattle.std.proofs.Common.{◌≡◌, ◌≤◌, max, drop}
use Rattle.tm_base.specs.Layout.{greatest_align}
use Rattle.tm_layout.specs.Reckoned.{layouts_in}
use Rattle.tm_layout.proofs.fields.greatest_align.Given as goal

-- the greatest so far and that of the fields that are left make that of all
abbrev pub invariant-loop-field : goal.invariant-loop-field
invariant-loop-field l = record {
  some : 1 ≤ l.greatest;
  whole : max l.greatest (greatest_align l.packed (layouts_in (drop l.field-index l.fields))) ≡ greatest_align l.fn.packed (layouts_in l.fn.fields);
}
