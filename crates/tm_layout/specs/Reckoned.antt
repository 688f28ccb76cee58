-- Layouts and weights of definitions, by what is known of the fields.
use Rattle.std.specs.Prelude.{◌≡◌, ℕ, ◌+◌, Option, List, [], ◌∷◌, map}
use Rattle.tm_base.specs.Layout.{Layout, place_at}
use Rattle.tm_layout.specs.declared.facts.Facts.{Facts}
use Rattle.tm_layout.specs.declared.layouts.Layout.{Layout as Known}
use Rattle.tm_layout.specs.Capped.{capped}

abbrev pub layout_in : Facts → Layout
layout_in f = record { size = f.size; align = f.align }

abbrev pub layouts_in : List Facts → List Layout
layouts_in fs = map layout_in fs

abbrev pub variant_layouts_in : List (List Facts) → List (List Layout)
variant_layouts_in facts = map layouts_in facts

-- the same layout as the field's definition has it
abbrev pub shape : Known → Layout
shape l = record { size = l.size; align = l.align }

-- the layout, as it is reckoned
pub record IsCapped (l : Layout) (known : Known) : Type 0 where
  pub size : known.size ≡ capped l.size
  pub align : known.align ≡ l.align

-- where a field ends, that stands at or past a place
abbrev pub end_at : Option ℕ → ℕ → Layout → ℕ
end_at packed at l = place_at packed at l + l.size

-- the fields of a struct or a union
abbrev pub only_fields : List (List Facts) → List Facts
only_fields [] = []
only_fields (fs ∷ facts) = fs

-- the weights of fields
abbrev pub weights_in : List Facts → List ℕ
weights_in fs = map (λ f. f.weight) fs

-- those of the fields of each variant
abbrev pub variant_weights_in : List (List Facts) → List (List ℕ)
variant_weights_in facts = map weights_in facts
