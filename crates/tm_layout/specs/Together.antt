-- What is known of some types together.
use Rattle.std.specs.Prelude.{false, ◌||◌, None, List, [], ◌∷◌}
use Rattle.tm_base.specs.Faults.{or_else}
use Rattle.tm_layout.specs.declared.facts.Facts.{Facts}
use Rattle.tm_layout.specs.declared.parts.Parts.{Parts}

-- no types
abbrev pub no_parts : Parts
no_parts = record { refusal = None; nullable = false; aligned = false; interior = false }

-- one type
abbrev pub part_of : Facts → Parts
part_of f = record { refusal = f.refusal; nullable = f.nullable; aligned = f.aligned; interior = f.interior }

-- some types and those behind them
abbrev pub joined : Parts → Parts → Parts
joined p q =
    record { refusal = or_else p.refusal q.refusal; nullable = p.nullable || q.nullable; aligned = p.aligned || q.aligned; interior = p.interior || q.interior }

-- the fields
abbrev pub fields_together : List Facts → Parts
fields_together [] = no_parts
fields_together (f ∷ fs) = joined (part_of f) (fields_together fs)

-- the fields of all variants
abbrev pub variants_together : List (List Facts) → Parts
variants_together [] = no_parts
variants_together (fs ∷ facts) = joined (fields_together fs) (variants_together facts)
