-- The name faults of a file under a profile, listed part by part.
use Rattle.std.specs.Prelude.{ℕ, Bool, true, not, ◌||◌, Option, Some, None, List, [], ◌∷◌, ◌++◌, flat_map}
use Rattle.std.specs.List.{list_any}
use Rattle.std.specs.Ordering.{int_eq}
use Rattle.tm_base.specs.declared.ground.Primitive.{Primitive}
use Rattle.tm_base.specs.declared.limit.NameWhy.{NameWhy}
use Rattle.tm_base.specs.declared.limit.NameWhy.TheVariants.{Twice, Unknown, Arity, Lifetime, Discriminant, BadRepr}
use Rattle.tm_base.specs.declared.profile.Profile.{Profile}
use Rattle.tm_names.specs.declared.faults.least.NameFault.{NameFault}
use Rattle.tm_names.specs.declared.meaning.Meaning.{Meaning}
use Rattle.tm_names.specs.declared.faults.mentions.Mention.{Mention}
use Rattle.tm_names.specs.declared.faults.mentions.Mention.TheVariants.{Name, Life}
use Rattle.tm_names.specs.declared.faults.mentions.NameMention.{NameMention}
use Rattle.tm_names.specs.declared.value.Value.{Value}
use Rattle.tm_names.specs.declared.value.Value.TheVariants.{AtLeastZero}
use Rattle.tm_names.specs.Discriminants.{is_in_range}
use Rattle.tm_names.specs.Faults.{decl_lists}
use Rattle.tm_names.specs.Least.{fault_where}
use Rattle.tm_names.specs.Meanings.{meaning_of, takes}
use Rattle.tm_names.specs.Representations.{is_repr_in_form, tag_of}
use Rattle.tm_names.specs.Scopes.{Scope, decl_scope, is_in_sight}
use Rattle.tm_names.specs.Values.{int_of, next_of, value_in}
use Rattle.tm_names.specs.Written.{is_among, is_reserved}
use Rattle.tm_parse.specs.declared.parsed.Decl.{Decl}
use Rattle.tm_parse.specs.declared.parsed.DeclRepr.{DeclRepr}
use Rattle.tm_parse.specs.declared.parsed.DeclVariant.{DeclVariant}

-- a discriminant that is out of range or stands before
abbrev pub is_wrong : Profile → Option Primitive → List Value → Value → Bool
is_wrong profile tag before value = not (is_in_range profile tag (int_of value)) || list_any (λ other. int_eq (int_of other) (int_of value)) before

-- a fault at a name, where there is one
abbrev pub fault_at : Bool → NameWhy → Option ℕ → List NameFault
fault_at wrong why None = []
fault_at wrong why (Some place) = fault_where wrong why place

-- the faults of an enum's discriminants, where these stand before and so much is implied
abbrev pub value_faults : Profile → Option Primitive → List Value → Value → List DeclVariant → List NameFault
value_faults profile tag before implied [] = []
value_faults profile tag before implied (v ∷ vs) =
    fault_at (is_wrong profile tag before (value_in implied v)) Discriminant v.name
    ++ value_faults profile tag (before ++ value_in implied v ∷ []) (next_of (value_in implied v)) vs

-- the fault of a definition's representation stands at its first item
abbrev pub first_repr : Bool → List DeclRepr → List NameFault
first_repr wrong [] = []
first_repr wrong (repr ∷ reprs) = fault_where wrong BadRepr repr.token

abbrev pub repr_faults : Decl → List NameFault
repr_faults d = first_repr (not (is_repr_in_form d)) d.reprs

-- a name in a type, with what it means
abbrev pub name_faults : List Decl → NameMention → Option Meaning → List NameFault
name_faults decls mention None = fault_where true Unknown mention.place
name_faults decls mention (Some meaning) = fault_where (not (takes decls meaning mention)) Arity mention.place

module _ (name : ℕ → List ℕ) where
  -- the names of a list that stand before in it, where these stand before the list
  abbrev pub repeats_behind : List ℕ → List ℕ → List NameFault
  repeats_behind before [] = []
  repeats_behind before (place ∷ places) = fault_where (is_among name before place) Twice place ++ repeats_behind (before ++ place ∷ []) places

  abbrev pub repeats : List ℕ → List NameFault
  repeats = repeats_behind []

  -- the lifetimes of a list that can't be declared
  abbrev pub reserved : List ℕ → List NameFault
  reserved = flat_map (λ place. fault_where (is_reserved name place) Lifetime place)

  module _ (decls : List Decl) where
    -- what is mentioned where these lifetimes and type parameters are in sight
    abbrev pub mention_faults : List ℕ → List ℕ → Mention → List NameFault
    mention_faults sight types (Name mention) = name_faults decls mention (meaning_of name decls types mention.place)
    mention_faults sight types (Life place) = fault_where (not (is_in_sight name sight place)) Lifetime place

    abbrev pub scope_faults : Scope → List NameFault
    scope_faults scope = flat_map (mention_faults scope.sight scope.types) scope.mentions

-- all faults of a definition but that it holds itself
abbrev pub decl_faults : Profile → (ℕ → List ℕ) → List Decl → Decl → List NameFault
decl_faults profile name decls d =
    flat_map (repeats name) (decl_lists d)
    ++ (reserved name d.params
    ++ (scope_faults name decls (decl_scope d)
    ++ (value_faults profile (tag_of d) [] (AtLeastZero 0) d.variants
    ++ repr_faults d)))
