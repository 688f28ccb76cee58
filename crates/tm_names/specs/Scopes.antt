-- What is mentioned in a file, and what is in sight there: in a definition its own parameters, in questions
-- and `outlives` items all declared lifetimes of the file and no type parameter, and `'static` everywhere.
use Rattle.std.specs.Prelude.{ℕ, Bool, ◌||◌, List, [], ◌∷◌, ◌++◌, map, flat_map}
use Rattle.tm_names.specs.declared.faults.mentions.Mention.{Mention}
use Rattle.tm_names.specs.declared.faults.mentions.Mention.TheVariants.{Life}
use Rattle.tm_names.specs.Mentions.{mentions_of}
use Rattle.tm_names.specs.Written.{is_among, is_static}
use Rattle.tm_parse.specs.declared.parsed.Decl.{Decl}
use Rattle.tm_parse.specs.declared.parsed.DeclAsk.{DeclAsk}
use Rattle.tm_parse.specs.declared.parsed.DeclBound.{DeclBound}
use Rattle.tm_parse.specs.declared.parsed.DeclVariant.{DeclVariant}
use Rattle.tm_parse.specs.declared.parsed.Parsed.{Parsed}

-- a part of the file: what it mentions, and the lifetimes besides `'static` and the type parameters in
-- sight, by their places
pub record Scope : Type 0 where
  pub mentions : List Mention
  pub sight : List ℕ
  pub types : List ℕ

-- what a variant and a definition mention in their fields' types
abbrev pub variant_mentions : DeclVariant → List Mention
variant_mentions v = flat_map (λ field. mentions_of field.ty) v.fields

abbrev pub decl_mentions : Decl → List Mention
decl_mentions d = flat_map variant_mentions d.variants

-- what a question and an `outlives` item mention
abbrev pub ask_mentions : DeclAsk → List Mention
ask_mentions ask = mentions_of ask.src ++ mentions_of ask.dst

abbrev pub bound_mentions : DeclBound → List Mention
bound_mentions bound = Life bound.longer ∷ Life bound.shorter ∷ []

-- a definition, and all that stands outside of definitions
abbrev pub decl_scope : Decl → Scope
decl_scope d = record { mentions = decl_mentions d; sight = d.params; types = d.type_params }

abbrev pub outer_scope : Parsed → Scope
outer_scope file = record { mentions = flat_map bound_mentions file.bounds ++ flat_map ask_mentions file.questions; sight = file.lifetimes; types = [] }

-- the parts of a file
abbrev pub scopes_of : Parsed → List Scope
scopes_of file = map decl_scope file.decls ++ outer_scope file ∷ []

-- the lifetime at the place is in sight
abbrev pub is_in_sight : (ℕ → List ℕ) → List ℕ → ℕ → Bool
is_in_sight name sight place = is_static name place || is_among name sight place
