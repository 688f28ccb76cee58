-- Where the fields of types stand, as trees are built from them.
use Rattle.std.specs.Prelude.{◌≡◌, ℕ, Option, List, unwrap_or}
use Rattle.tm_base.specs.declared.definition.Def.{Def}
use Rattle.tm_base.specs.declared.ground.Ground.{Ground, Named}
use Rattle.tm_base.specs.declared.ground.NamedId.{NamedId}
use Rattle.tm_base.specs.declared.ground.Primitive.{Primitive}
use Rattle.tm_base.specs.declared.ground.Primitive.TheVariants.{I32}
use Rattle.tm_base.specs.Expanded.{elements}
use Rattle.tm_base.specs.Laws.{Apart}
use Rattle.tm_base.specs.Layout.{field_layouts, size_of}
use Rattle.tm_base.specs.Tables.{Tables, expanded_in}
use Rattle.tm_layout.specs.LaidOut.{AreFieldsOf, IsDefinition, places_at}

-- the integer type of an enum's tag: that which is written, else C's
abbrev pub tag_type : Option Primitive → Primitive
tag_type tag = unwrap_or tag I32

module _ (tables : Tables) where
  -- the types of a variant's fields, which stand apart from a place on and inside so many bytes
  pub record AreFieldsWithin (id : NamedId) (variant_number begin size : ℕ) (types : List Ground) : Type 0 where
    pub fields : AreFieldsOf tables id variant_number types
    pub apart : Apart begin (places_at (expanded_in tables (Named id)) variant_number) (field_layouts (elements (expanded_in tables) types)) size

  -- a named type of so many bytes, by its definition and the types of its fields
  pub record IsSizedDefinition (id : NamedId) (count : ℕ) (def : Def) (types : List (List Ground)) : Type 0 where
    pub definition : IsDefinition tables id def types
    pub size : count ≡ size_of (expanded_in tables (Named id))
