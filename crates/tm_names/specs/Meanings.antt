-- What a type's name means: the first type parameter in sight that has the name, or else the first
-- definition.
use Rattle.std.specs.Prelude.{ℕ, ◌<◌, ◌==◌, ◌&&◌, Bool, true, Option, Some, None, List, length, slice_get, option_map}
use Rattle.std.specs.List.{position_from}
use Rattle.std.specs.Option.{option_or}
use Rattle.tm_names.specs.declared.meaning.Meaning.{Meaning}
use Rattle.tm_names.specs.declared.meaning.Meaning.TheVariants.{Definition, Parameter}
use Rattle.tm_names.specs.declared.faults.mentions.NameMention.{NameMention}
use Rattle.tm_names.specs.Written.{first_among, is_same}
use Rattle.tm_parse.specs.declared.parsed.Decl.{Decl}

module _ (name : ℕ → List ℕ) (decls : List Decl) where
  -- the number of the first definition that has the name at the place
  abbrev pub first_named : ℕ → Option ℕ
  first_named place = position_from (λ d. is_same name d.name place) 0 decls

  -- what the name at the place means, where these type parameters are in sight
  abbrev pub meaning_of : List ℕ → ℕ → Option Meaning
  meaning_of types place = option_or (option_map Parameter (first_among name types place)) (option_map Definition (first_named place))

-- the number is that of a definition, or of one of these type parameters
abbrev pub IsAtPlace : List Decl → List ℕ → Meaning → Type 0
IsAtPlace decls types (Definition number) = number < length decls
IsAtPlace decls types (Parameter number) = number < length types

-- so many lifetimes and types are given to it as the definition has parameters
abbrev pub suits : Option Decl → NameMention → Bool
suits None mention = true
suits (Some decl) mention = (mention.lifetimes == length decl.params) && (mention.types == length decl.type_params)

-- what is given to a name is what it takes: a parameter takes nothing
abbrev pub takes : List Decl → Meaning → NameMention → Bool
takes decls (Definition number) mention = suits (slice_get decls number) mention
takes decls (Parameter number) mention = (mention.lifetimes == 0) && (mention.types == 0)
