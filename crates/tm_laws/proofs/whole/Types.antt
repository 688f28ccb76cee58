-- What holds of each reference in the parts of a type holds of each in the type. So each reference in a type
-- that is written out for a profile is written out for it.
use Rattle.std.proofs.Common.{◌≡◌, ℕ, zero, suc, refl, List, [], ◌∷◌, Option, Some, None, slice_get}
use Rattle.std.specs.List.{All}
use Rattle.std.proofs.lemmas.List.Elements.{All-nil, All-cons, All-head, All-tail, All-append}
use Rattle.tm_base.specs.declared.definition.Def.{Def}
use Rattle.tm_base.specs.declared.definition.Field.{Field}
use Rattle.tm_base.specs.declared.definition.NamedRow.{NamedRow}
use Rattle.tm_base.specs.declared.definition.Variant.{Variant}
use Rattle.tm_base.specs.declared.ground.Ground.{Ground, out-Ground}
use Rattle.tm_base.specs.declared.ground.Ground.TheOpen.{Ground-F}
use Rattle.tm_base.specs.declared.ground.NamedId.{NamedId}
use Rattle.tm_base.specs.declared.ground.Wrapper.{Wrapper}
use Rattle.tm_base.specs.declared.ground.Wrapper.TheVariants as wrapper
use Rattle.tm_base.specs.declared.profile.Profile.{Profile}
use Rattle.tm_base.specs.Expanded.{Expanded, elements, fields_of, variants_of, defined, row_of, wrapped, level, expanded_within, depth_limit}
use Rattle.tm_base.specs.Tables.{Tables, expanded_in}
use Rattle.tm_laws.proofs.whole.Leaves.{Leaf, leaves, field_leaves, variant_leaves}

module _ (P : Leaf → Type 0) (F : Ground → Type 0) where
  -- F holds of each part of the type, and P of the reference that it is
  abbrev pub HasParts : Profile → List NamedRow → Ground-F Ground → Type 0
  HasParts profile rows (Ground-F.Tuple gs) = All F gs
  HasParts profile rows (Ground-F.Array g n) = F g
  HasParts profile rows (Ground-F.Named id) = (row : NamedRow) → slice_get rows id.0 ≡ Some row → All (All F) row.types
  HasParts profile rows (Ground-F.Wrap w g) = F g
  HasParts profile rows (Ground-F.Ref r) = P (record { profile = profile; number = r.0 })
  HasParts profile rows _ = Unit {0}

  -- One level of a type: P holds of its references, where it does of those of its parts.
  module _ (profile : Profile) (part : Ground → Expanded) (each : (g : Ground) → F g → All P (leaves (part g))) where
    elements-leaves : (gs : List Ground) → All F gs → All P (field_leaves (elements part gs))
    unfolding leaves
    elements-leaves [] h = All-nil P
    elements-leaves (g ∷ gs) h = All-append P (leaves (part g)) (field_leaves (elements part gs)) (each g (All-head F g gs h)) (elements-leaves gs (All-tail F g gs h))

    fields_of-leaves : (fs : List Field) (gs : List Ground) → All F gs → All P (field_leaves (fields_of part fs gs))
    unfolding leaves
    fields_of-leaves [] gs h = All-nil P
    fields_of-leaves (f ∷ fs) [] h = All-nil P
    fields_of-leaves (f ∷ fs) (g ∷ gs) h = All-append P (leaves (part g)) (field_leaves (fields_of part fs gs)) (each g (All-head F g gs h)) (fields_of-leaves fs gs (All-tail F g gs h))

    variants_of-leaves : (vs : List Variant) (types : List (List Ground)) → All (All F) types → All P (variant_leaves (variants_of part vs types))
    unfolding leaves
    variants_of-leaves [] types h = All-nil P
    variants_of-leaves (v ∷ vs) [] h = All-nil P
    variants_of-leaves (v ∷ vs) (gs ∷ types) h =
        All-append P (field_leaves (fields_of part v.fields gs)) (variant_leaves (variants_of part vs types))
        (fields_of-leaves v.fields gs (All-head (All F) gs types h)) (variants_of-leaves vs types (All-tail (All F) gs types h))

    defined-leaves : (id : NamedId) (types : List (List Ground)) (d : Option Def) → All (All F) types → All P (leaves (defined part profile id types d))
    unfolding leaves
    defined-leaves id types None h = All-nil P
    defined-leaves id types (Some d) h = variants_of-leaves d.variants types h

    row_of-leaves : (defs : List Def) (id : NamedId) (row : Option NamedRow) → ((one : NamedRow) → row ≡ Some one → All (All F) one.types) → All P (leaves (row_of part profile defs id row))
    unfolding leaves
    row_of-leaves defs id None h = All-nil P
    row_of-leaves defs id (Some row) h = defined-leaves id row.types (slice_get defs row.def.0) (h row refl)

    wrapped-leaves : (w : Wrapper) (g : Ground) → F g → All P (leaves (wrapped part w g))
    unfolding leaves
    wrapped-leaves wrapper.PhantomData g h = All-nil P
    wrapped-leaves w g h = each g h

    pub level-leaves : (defs : List Def) (rows : List NamedRow) (x : Ground-F Ground) → HasParts profile rows x → All P (leaves (level part profile defs rows x))
    unfolding leaves
    level-leaves defs rows (Ground-F.Prim p) h = All-nil P
    level-leaves defs rows Ground-F.Never h = All-nil P
    level-leaves defs rows Ground-F.Unit h = All-nil P
    level-leaves defs rows (Ground-F.Tuple gs) h = elements-leaves gs h
    level-leaves defs rows (Ground-F.Array g n) h = each g h
    level-leaves defs rows (Ground-F.Named id) h = row_of-leaves defs id (slice_get rows id.0) h
    level-leaves defs rows (Ground-F.NonZero p) h = All-nil P
    level-leaves defs rows (Ground-F.Wrap w g) h = wrapped-leaves w g h
    level-leaves defs rows (Ground-F.Ref r) h = All-cons P (record { profile = profile; number = r.0 }) [] h (All-nil P)

-- each reference in the type is written out for the profile
abbrev pub IsFor : Profile → Expanded → Type 0
IsFor profile t = All (λ leaf. leaf.profile ≡ profile) (leaves t)

-- any type that is written out for a profile
abbrev Any : Ground → Type 0
Any g = Unit {0}

abbrev all_any : (gs : List Ground) → All Any gs
all_any gs = λ k g below. tt

parts-any : (profile : Profile) (rows : List NamedRow) (x : Ground-F Ground) → HasParts (λ leaf. leaf.profile ≡ profile) Any profile rows x
parts-any profile rows (Ground-F.Tuple gs) = all_any gs
parts-any profile rows (Ground-F.Array g n) = tt
parts-any profile rows (Ground-F.Named id) = λ row e k gs below. all_any _
parts-any profile rows (Ground-F.Wrap w g) = tt
parts-any profile rows (Ground-F.Ref r) = refl
parts-any profile rows (Ground-F.Prim p) = tt
parts-any profile rows Ground-F.Never = tt
parts-any profile rows Ground-F.Unit = tt
parts-any profile rows (Ground-F.NonZero p) = tt

expanded_within-for : (profile : Profile) (n : ℕ) (defs : List Def) (rows : List NamedRow) (g : Ground) → IsFor profile (expanded_within profile n defs rows g)
unfolding expanded_within leaves
expanded_within-for profile zero defs rows g = All-nil (λ leaf. leaf.profile ≡ profile)
expanded_within-for profile (suc n) defs rows g =
    level-leaves (λ leaf. leaf.profile ≡ profile) Any profile (expanded_within profile n defs rows) (λ k any. expanded_within-for profile n defs rows k)
    defs rows (out-Ground g) (parts-any profile rows (out-Ground g))

-- each type over some tables is written out for their profile
pub expanded_in-for : (tables : Tables) (g : Ground) → IsFor tables.profile (expanded_in tables g)
expanded_in-for tables g = expanded_within-for tables.profile depth_limit tables.defs tables.named g
