use Rattle.std.proofs.Common.{◌≡◌, ◌≤◌, ◌∷◌, [], max, None, drop}
use Rattle.tm_base.specs.Layout.{greatest_align, greatest_size, structs}
use Rattle.tm_layout.specs.Capped.{capped}
use Rattle.tm_layout.specs.Reckoned.{shape, variant_layouts_in}
use Rattle.tm_layout.proofs.enums.variants_behind.Given as goal

-- the greatest so far and those of the variants that are left make those of all
abbrev pub invariant-loop-fields : goal.invariant-loop-fields
invariant-loop-fields l = record {
  some : 1 ≤ l.align;
  size : max l.size (capped (greatest_size (structs (shape l.front ∷ []) (variant_layouts_in (drop l.fields-index l.variants))))) ≡ capped (greatest_size (structs (shape l.fn.front ∷ []) (variant_layouts_in l.fn.variants)));
  align : max l.align (greatest_align None (structs (shape l.front ∷ []) (variant_layouts_in (drop l.fields-index l.variants)))) ≡ greatest_align None (structs (shape l.fn.front ∷ []) (variant_layouts_in l.fn.variants));
}
