-- An enum by its definition: where the fields of its variants stand.
use Rattle.std.proofs.Common.{◌≡◌, ℕ, ◌+◌, sym, ◌∙◌, ap, Bool, true, false, if◌then◌else◌, List, [], length, ◌-◌, Some, slice_get, arith, map, None, unwrap_or}
use Rattle.std.proofs.lemmas.List.{length-map}
use Rattle.tm_base.specs.declared.definition.Def.{Def}
use Rattle.tm_base.specs.declared.definition.Kind.TheVariants.{Enum}
use Rattle.tm_base.specs.declared.definition.Variant.{Variant}
use Rattle.tm_base.specs.declared.ground.Ground.{Ground, Named}
use Rattle.tm_base.specs.declared.ground.NamedId.{NamedId}
use Rattle.tm_base.specs.declared.profile.Profile.{Profile}
use Rattle.tm_base.specs.Expanded.{Expanded, fields_of, named, variants_of, Variants}
use Rattle.tm_base.specs.Layout.{Layout, field_layouts, places, variant_layouts}
use Rattle.tm_base.specs.Places.{fields_place, first_place, variant_places}
use Rattle.tm_base.specs.Tables.{Tables, expanded_in}
use Rattle.tm_base.specs.Whole.{is_enum_repr, is_repr_in_form}
use Rattle.tm_layout.proofs.DefinitionLemmas.{in_form}
use Rattle.tm_layout.specs.LaidOut.{AreFieldsOf, IsDefinition, places_at}
use Rattle.std.proofs.lemmas.Option.{slice_get-map}
use Rattle.std.specs.Option.{option_map}
use Rattle.tm_base.specs.declared.definition.Repr.{Repr}
use Rattle.tm_layout.proofs.VariantLemmas.{few-fields, layouts-at, layouts-count, layouts-same, places-count, total-at, typed-at}

variant_places-count : (begin first : ℕ) (ls : List Layout) (c : Bool) → length (if c then map (λ place. begin + place) (places None 0 ls) else places None first ls) ≡ length ls
variant_places-count begin first ls true = length-map (places None 0 ls) (λ place. begin + place) ∙ places-count None 0 ls
variant_places-count begin first ls false = places-count None first ls

enum-places : (profile : Profile) (id : NamedId) (repr : Repr) (part : Ground → Expanded) (vs : List Variant) (types : List (List Ground)) (i : ℕ) (v : Variant) (gs : List Ground)
    → slice_get vs i ≡ Some v → slice_get types i ≡ Some gs
    → places_at (named profile id Enum repr (variants_of part vs types)) i ≡ variant_places profile repr (fields_place profile repr (variants_of part vs types)) (field_layouts (fields_of part v.fields gs))
enum-places profile id repr part vs types i v gs at_v at_gs =
    let place = variant_places profile repr (fields_place profile repr (variants_of part vs types)) in
    ap (λ o. unwrap_or o []) (slice_get-map place (variant_layouts (variants_of part vs types)) i ∙ ap (option_map place) (layouts-at part vs types i v gs at_v at_gs))

module _ (tables : Tables) (id : NamedId) (def : Def) (types : List (List Ground)) (is : IsDefinition tables id def types) (kind : def.kind ≡ Enum) where
  abbrev part : Ground → Expanded
  part = expanded_in tables

  abbrev cases : Variants
  cases = variants_of part def.variants types

  pub enum-whole : part (Named id) ≡ named tables.profile id Enum def.repr cases
  enum-whole = is.whole ∙ ap (λ k. named tables.profile id k def.repr cases) kind

  pub in_repr : is_enum_repr def.repr def.variants ≡ true
  in_repr = ap (λ k. is_repr_in_form k def.repr def.variants) (sym kind) ∙ (in_form tables.profile def is.in_form).written

  module _ (i : ℕ) (v : Variant) (gs : List Ground) (at_v : slice_get def.variants i ≡ Some v) (at_gs : slice_get types i ≡ Some gs) where
    abbrev begin : ℕ
    begin = fields_place tables.profile def.repr cases

    abbrev members : List Layout
    members = field_layouts (fields_of part v.fields gs)

    pub typed : length v.fields ≡ length gs
    typed = typed-at def.variants types is.shaped i v gs at_v at_gs

    pub variant-places : places_at (part (Named id)) i ≡ variant_places tables.profile def.repr begin members
    variant-places = ap (λ t. places_at t i) enum-whole ∙ enum-places tables.profile id def.repr part def.variants types i v gs at_v at_gs

    -- the fields of a variant have places
    pub variant-fields : AreFieldsOf tables id i gs
    variant-fields =
        let same = layouts-same part v.fields gs typed in
        let total = few-fields tables.profile def is.in_form in
        let most = total-at def.variants i v at_v in
        record {
          each = is.each i gs at_gs;
          few = omega (arith, typed);
          sound = is.sound;
          count = ap (λ xs. length xs) variant-places ∙ variant_places-count begin (first_place tables.profile def.repr) members def.repr.c ∙ ap (λ xs. length xs) same ∙ layouts-count part gs;
        }
