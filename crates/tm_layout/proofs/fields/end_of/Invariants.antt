use Rattle.std.proofs.Common.{◌≡◌, ◌<◌, ◌^◌, drop}
use Rattle.tm_base.specs.Layout.{end_of}
use Rattle.tm_layout.specs.Capped.{capped}
use Rattle.tm_layout.specs.Reckoned.{layouts_in}
use Rattle.tm_layout.proofs.fields.end_of.Given as goal

-- the fields that are left end where all end
abbrev pub invariant-loop-field : goal.invariant-loop-field
invariant-loop-field l = record {
  fits : l.end < 2 ^ 32;
  same : capped (end_of l.packed l.end (layouts_in (drop l.field-index l.fields))) ≡ capped (end_of l.fn.packed l.fn.at (layouts_in l.fn.fields));
}
