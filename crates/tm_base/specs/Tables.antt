-- What a world says of its types: the profile, the definitions, the names of the regions and the bounds between
-- them, the named types and the reference types.
use Rattle.std.specs.Prelude.{ℕ, List, Option, Some}
use Rattle.tm_base.specs.declared.definition.Bound.{Bound}
use Rattle.tm_base.specs.declared.definition.Def.{Def}
use Rattle.tm_base.specs.declared.definition.NamedRow.{NamedRow}
use Rattle.tm_base.specs.declared.definition.RefRow.{RefRow}
use Rattle.tm_base.specs.declared.ground.Ground.{Ground}
use Rattle.tm_base.specs.declared.profile.Profile.{Profile}
use Rattle.tm_base.specs.Expanded.{Expanded, expanded}

pub record Tables : Type 0 where
  pub profile : Profile
  pub defs : List Def
  pub regions : List (List ℕ)
  pub bounds : List Bound
  pub named : List NamedRow
  pub refs : List RefRow

-- a type of the world, written out
abbrev pub expanded_in : Tables → Ground → Expanded
expanded_in tables g = expanded tables.profile tables.defs tables.named g

-- what a reference type points to, written out
abbrev pub pointee_in : Tables → RefRow → Expanded
pointee_in tables row = expanded_in tables row.pointee

-- a fact of two reference types by their numbers; it fails where a number names none
abbrev pub OnRows : Option RefRow → Option RefRow → (RefRow → RefRow → Type 0) → Type 0
OnRows (Some r) (Some t) P = P r t
OnRows _ _ P = ⊥
