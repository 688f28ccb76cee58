-- The name faults of a file under a profile, each with the token at which it stands.
use Rattle.std.specs.Prelude.{◌≡◌, ℕ, ◌<◌, ◌≤◌, ◌⊎◌, ◌||◌, not, IsTrue, IsFalse, IsNone, Some, List, ◌∷◌, ◌++◌, map, flat_map, Contains, slice_get, option_to_list}
use Rattle.std.specs.List.{list_any}
use Rattle.std.specs.Ordering.{int_eq}
use Rattle.tm_base.specs.declared.limit.NameWhy.{NameWhy}
use Rattle.tm_base.specs.declared.limit.NameWhy.TheVariants.{Twice, Unknown, Arity, Lifetime, Discriminant, Infinite, BadRepr}
use Rattle.tm_base.specs.declared.profile.Profile.{Profile}
use Rattle.tm_names.specs.declared.meaning.Meaning.{Meaning}
use Rattle.tm_names.specs.declared.faults.mentions.Mention.{Mention}
use Rattle.tm_names.specs.declared.faults.mentions.Mention.TheVariants.{Name, Life}
use Rattle.tm_names.specs.declared.faults.mentions.NameMention.{NameMention}
use Rattle.tm_names.specs.Discriminants.{Valued, valued, is_in_range}
use Rattle.tm_names.specs.Holding.{HoldsItself}
use Rattle.tm_names.specs.Meanings.{meaning_of, takes}
use Rattle.tm_names.specs.Ranks.{rank}
use Rattle.tm_names.specs.Representations.{is_repr_in_form, tag_of}
use Rattle.tm_names.specs.Scopes.{Scope, scopes_of, is_in_sight}
use Rattle.tm_names.specs.Written.{is_among, is_reserved}
use Rattle.tm_parse.specs.declared.parsed.Decl.{Decl}
use Rattle.tm_parse.specs.declared.parsed.DeclRepr.{DeclRepr}
use Rattle.tm_parse.specs.declared.parsed.DeclVariant.{DeclVariant}
use Rattle.tm_parse.specs.declared.parsed.Parsed.{Parsed}

-- the names of a variant's fields, and of a definition's variants
abbrev pub field_names : DeclVariant → List ℕ
field_names v = flat_map (λ field. option_to_list field.name) v.fields

abbrev pub variant_names : Decl → List ℕ
variant_names d = flat_map (λ v. option_to_list v.name) d.variants

-- the lists in which no name may stand twice: definitions, declared lifetimes, and in each definition its
-- lifetime parameters, its type parameters, its variants and the fields of each variant
abbrev pub decl_lists : Decl → List (List ℕ)
decl_lists d = d.params ∷ d.type_params ∷ variant_names d ∷ map field_names d.variants

abbrev pub name_lists : Parsed → List (List ℕ)
name_lists file = map (λ d. d.name) file.decls ∷ file.lifetimes ∷ flat_map decl_lists file.decls

-- the lists of declared lifetimes and of lifetime parameters
abbrev pub lifetime_lists : Parsed → List (List ℕ)
lifetime_lists file = file.lifetimes ∷ map (λ d. d.params) file.decls

module _ (name : ℕ → List ℕ) (file : Parsed) where
  -- the name stands before in its list
  pub record IsTwice (place : ℕ) : Type 0 where
    pub before : List ℕ
    pub after : List ℕ
    pub listed : Contains (name_lists file) (before ++ (place ∷ after))
    pub again : IsTrue (is_among name before place)

  -- the mention stands in some part of the file
  pub record IsMentioned (scope : Scope) (mention : Mention) : Type 0 where
    pub part : Contains (scopes_of file) scope
    pub mentioned : Contains scope.mentions mention

  -- no definition and no parameter in sight has the name
  pub record IsUnknown (place : ℕ) : Type 0 where
    pub scope : Scope
    pub mention : NameMention
    pub mentioned : IsMentioned scope (Name mention)
    pub here : mention.place ≡ place
    pub unknown : IsNone (meaning_of name file.decls scope.types place)

  -- the name takes another number of lifetimes or of types
  pub record IsArity (place : ℕ) : Type 0 where
    pub scope : Scope
    pub mention : NameMention
    pub mentioned : IsMentioned scope (Name mention)
    pub here : mention.place ≡ place
    pub meaning : Meaning
    pub meant : meaning_of name file.decls scope.types place ≡ Some meaning
    pub differs : IsFalse (takes file.decls meaning mention)

  -- the lifetime isn't in sight
  pub record IsOutOfSight (place : ℕ) : Type 0 where
    pub scope : Scope
    pub mentioned : IsMentioned scope (Life place)
    pub hidden : IsFalse (is_in_sight name scope.sight place)

  -- `'static` or `'_` is declared or a parameter
  pub record IsReserved (place : ℕ) : Type 0 where
    pub places : List ℕ
    pub listed : Contains (lifetime_lists file) places
    pub among : Contains places place
    pub reserved : IsTrue (is_reserved name place)

  -- the definition holds itself by value
  pub record IsInfinite (place : ℕ) : Type 0 where
    pub number : ℕ
    pub decl : Decl
    pub at : slice_get file.decls number ≡ Some decl
    pub named : decl.name ≡ place
    pub holds : HoldsItself name file.decls number

  -- the items of the definition's `repr` attributes don't go together; the first of them stands here
  pub record IsBadRepr (place : ℕ) : Type 0 where
    pub decl : Decl
    pub declared : Contains file.decls decl
    pub first : DeclRepr
    pub others : List DeclRepr
    pub reprs : decl.reprs ≡ first ∷ others
    pub here : first.token ≡ place
    pub wrong : IsFalse (is_repr_in_form decl)

-- under a profile, which says how far `usize` and `isize` range
module _ (profile : Profile) (name : ℕ → List ℕ) (file : Parsed) where
  -- the variant's discriminant is out of range, or an earlier variant's too
  pub record IsDiscriminant (place : ℕ) : Type 0 where
    pub decl : Decl
    pub declared : Contains file.decls decl
    pub before : List Valued
    pub here : Valued
    pub after : List Valued
    pub listed : valued decl.variants ≡ before ++ (here ∷ after)
    pub named : here.variant.name ≡ Some place
    pub wrong : IsTrue (not (is_in_range profile (tag_of decl) here.value) || list_any (λ v. int_eq v.value here.value) before)

  -- a fault of the kind stands at the token at the place
  abbrev pub IsNameFault : NameWhy → ℕ → Type 0
  IsNameFault Twice place = IsTwice name file place
  IsNameFault Unknown place = IsUnknown name file place
  IsNameFault Arity place = IsArity name file place
  IsNameFault Lifetime place = IsOutOfSight name file place ⊎ IsReserved name file place
  IsNameFault Discriminant place = IsDiscriminant place
  IsNameFault Infinite place = IsInfinite name file place
  IsNameFault BadRepr place = IsBadRepr name file place

  -- a fault before which none stands: at an earlier token, or at the same one and of an earlier kind
  pub record IsFirstFault (why : NameWhy) (place : ℕ) : Type 0 where
    pub fault : IsNameFault why place
    pub first : (other : NameWhy) (there : ℕ) → IsNameFault other there
        → (place < there) ⊎ ((place ≡ there) × (rank why ≤ rank other))

  -- no fault stands in the file
  pub record HasNoFault : Type 0 where
    pub none : (why : NameWhy) (place : ℕ) → IsNameFault why place → ⊥
