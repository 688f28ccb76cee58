-- The types that a type holds by value: as it is named, and written out.
use Rattle.std.specs.Prelude.{◌≡◌, List, [], ◌∷◌, ◌++◌, map}
use Rattle.tm_base.specs.declared.ground.Ground.{Ground}
use Rattle.tm_base.specs.declared.world.World.{World}
use Rattle.tm_base.specs.Expanded.{Expanded, Fields, Variants, tuple, array, wrap, named, no_fields, field, no_variants, variant}
use Rattle.tm_base.specs.Reaches.{parts_of}
use Rattle.tm_base.specs.Tables.{expanded_in}
use Rattle.tm_base.specs.Worlds.{tables_of, IsTypeOver}

-- the types of fields, and those of the fields of all variants, as they are written
abbrev pub field_types : Fields → List Expanded
field_types no_fields = []
field_types (field public t rest) = t ∷ field_types rest

abbrev pub variant_types : Variants → List Expanded
variant_types no_variants = []
variant_types (variant value members rest) = field_types members ++ variant_types rest

-- what a type that is written out holds by value, right inside it
abbrev pub inner_types : Expanded → List Expanded
inner_types (tuple members) = field_types members
inner_types (array t n) = t ∷ []
inner_types (wrap w t) = t ∷ []
inner_types (named profile id kind repr variants) = variant_types variants
inner_types t = []

-- A type written out holds by value what its parts are, written out, in their order.
abbrev pub ExpansionKeepsParts : World → Type 0
ExpansionKeepsParts world =
    let tables = tables_of world in
    (g : Ground) → IsTypeOver tables g → inner_types (expanded_in tables g) ≡ map (expanded_in tables) (parts_of tables g)
