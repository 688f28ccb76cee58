-- A named type by its definition: its variants, and the types and places of their fields.
use Rattle.std.proofs.Common.{◌≡◌, ℕ, zero, suc, ◌+◌, ◌≤◌, refl, sym, ◌∙◌, ap, subst, nat_le, true, ◌&&◌, ◌==◌, IsTrue, List, [], ◌∷◌, length, ◌-◌, Option, Some, slice_get, arith}
use Rattle.std.proofs.lemmas.Bool.{eqb-true}
use Rattle.std.proofs.lemmas.Bool.Decides.{nat_tests}
use Rattle.std.proofs.lemmas.List.Sums.{sum_by-cons, sum-map}
use Rattle.std.specs.List.{list_all}
use Rattle.tm_base.specs.declared.definition.Def.{Def}
use Rattle.tm_base.specs.declared.definition.Field.{Field}
use Rattle.tm_base.specs.declared.definition.Kind.{Kind}
use Rattle.tm_base.specs.declared.definition.Kind.TheVariants.{Struct, Union}
use Rattle.tm_base.specs.declared.definition.Variant.{Variant}
use Rattle.tm_base.specs.declared.ground.Ground.{Ground, Named}
use Rattle.tm_base.specs.declared.ground.NamedId.{NamedId}
use Rattle.tm_base.specs.declared.profile.Profile.{Profile}
use Rattle.tm_base.specs.Expanded.{Expanded, elements, fields_of, named, variants_of}
use Rattle.tm_base.specs.Layout.{Layout, field_layouts, layout_of, only, place_at, places, variant_layouts}
use Rattle.tm_base.specs.Tables.{Tables, expanded_in}
use Rattle.tm_base.specs.Valid.{all_public}
use Rattle.tm_base.specs.Whole.{are_variants_in_form, field_total, has_its_types, is_def_in_form}
use Rattle.tm_layout.specs.Made.{EachIs}
use Rattle.tm_layout.proofs.DefinitionLemmas.{in_form, is_equal}
use Rattle.tm_layout.proofs.NodeLemmas.{all_nodes, row_nodes}
use Rattle.tm_layout.proofs.RowLemmas.{first_true, second_true}
use Rattle.tm_layout.specs.LaidOut.{IsDefinition, IsLaidOut}

-- ---- one variant

-- a struct or a union is one variant, with a type for each field
pub record IsOne (vs : List Variant) (types : List (List Ground)) : Type 0 where
  pub variant : Variant
  pub fields : List Ground
  pub one : vs ≡ variant ∷ []
  pub typed : types ≡ fields ∷ []
  pub count : length variant.fields ≡ length fields

one-typed : (v : Variant) (types : List (List Ground)) → has_its_types (v ∷ []) types ≡ true → IsOne (v ∷ []) types
one-typed v [] shaped = cc
one-typed v (gs ∷ hs ∷ types) shaped = let none = second_true (length v.fields == length gs) (has_its_types [] (hs ∷ types)) shaped in cc
one-typed v (gs ∷ []) shaped =
    record { variant = v; fields = gs; one = refl; typed = refl; count = eqb-true (length v.fields) (length gs) (first_true (length v.fields == length gs) true shaped) }

one-of-one : (vs : List Variant) (types : List (List Ground)) → (length vs == 1) ≡ true → has_its_types vs types ≡ true → IsOne vs types
one-of-one [] types e shaped = cc
one-of-one (v ∷ []) types e shaped = one-typed v types shaped
one-of-one (v ∷ u ∷ vs) types e shaped = let two = is_equal (length (v ∷ u ∷ vs)) 1 e in absurd (omega arith)

struct-one : (vs : List Variant) (kind : Kind) (types : List (List Ground)) → kind ≡ Struct → are_variants_in_form kind vs ≡ true → has_its_types vs types ≡ true → IsOne vs types
struct-one vs kind types e counted shaped = one-of-one vs types (ap (λ k. are_variants_in_form k vs) (sym e) ∙ counted) shaped

union-one : (vs : List Variant) (kind : Kind) (types : List (List Ground)) → kind ≡ Union → are_variants_in_form kind vs ≡ true → has_its_types vs types ≡ true → IsOne vs types
union-one vs kind types e counted shaped = one-of-one vs types (first_true (length vs == 1) _ (ap (λ k. are_variants_in_form k vs) (sym e) ∙ counted)) shaped

-- ---- how many there are

total-more : (v : Variant) (vs : List Variant) → field_total (v ∷ vs) ≡ length v.fields + field_total vs
total-more v vs =
    sum-map (λ u. length u.fields) (v ∷ vs) ∙ sum_by-cons (λ u. length u.fields) v vs ∙ ap (λ (n : ℕ). length v.fields + n) (sym (sum-map (λ u. length u.fields) vs))

pub total-at : (vs : List Variant) (i : ℕ) (v : Variant) → slice_get vs i ≡ Some v → length v.fields ≤ field_total vs
total-at [] i v at = cc
total-at (u ∷ vs) zero v at =
    let same : length u.fields ≡ length v.fields = let one : u ≡ v = cc in ap (λ x. length x.fields) one in
    let total = total-more u vs in
    omega arith
total-at (u ∷ vs) (suc i) v at = let rest = total-at vs i v at in let total = total-more u vs in omega arith

few : (n : ℕ) → nat_le n 256 ≡ true → n ≤ 256
few n e = grind (arith, nat_tests)

pub few-fields : (profile : Profile) (def : Def) → IsTrue (is_def_in_form profile def) → field_total def.variants ≤ 256
few-fields profile def form = few (field_total def.variants) (second_true _ (nat_le (field_total def.variants) 256) form)

pub few-variants : (profile : Profile) (def : Def) → IsTrue (is_def_in_form profile def) → length def.variants ≤ 256
few-variants profile def form = few (length def.variants) (second_true _ (nat_le (length def.variants) 256) (first_true _ (nat_le (field_total def.variants) 256) form))

-- each variant has the types of its fields
pub typed-at : (vs : List Variant) (types : List (List Ground)) → has_its_types vs types ≡ true → (i : ℕ) (v : Variant) (gs : List Ground) → slice_get vs i ≡ Some v → slice_get types i ≡ Some gs → length v.fields ≡ length gs
typed-at [] types shaped i v gs at_v at_gs = cc
typed-at (u ∷ vs) [] shaped i v gs at_v at_gs = cc
typed-at (u ∷ vs) (hs ∷ types) shaped zero v gs at_v at_gs =
    let same : u ≡ v = cc in
    let typed : hs ≡ gs = cc in
    ap (λ x. length x.fields) (sym same) ∙ eqb-true (length u.fields) (length hs) (first_true (length u.fields == length hs) (has_its_types vs types) shaped) ∙ ap (λ xs. length xs) typed
typed-at (u ∷ vs) (hs ∷ types) shaped (suc i) v gs at_v at_gs = typed-at vs types (second_true (length u.fields == length hs) (has_its_types vs types) shaped) i v gs at_v at_gs

pub as_many : (vs : List Variant) (types : List (List Ground)) → has_its_types vs types ≡ true → length vs ≡ length types
as_many [] [] shaped = refl
as_many [] (gs ∷ types) shaped = cc
as_many (v ∷ vs) [] shaped = cc
as_many (v ∷ vs) (gs ∷ types) shaped = let rest = as_many vs types (second_true _ (has_its_types vs types) shaped) in omega arith

pub places-count : (packed : Option ℕ) (at : ℕ) (ls : List Layout) → length (places packed at ls) ≡ length ls
places-count packed at [] = refl
places-count packed at (l ∷ ls) = let rest = places-count packed (place_at packed at l + l.size) ls in omega arith

-- one variant's fields have no more parts than all have
pub only-nodes : (tables : Tables) (types : List (List Ground)) → all_nodes tables (only types) ≤ row_nodes tables types
only-nodes tables [] = omega arith
only-nodes tables (gs ∷ types) = omega arith

-- ---- what is said of fields by their types alone

module _ (part : Ground → Expanded) where
  pub layouts-same : (fs : List Field) (gs : List Ground) → length fs ≡ length gs → field_layouts (fields_of part fs gs) ≡ field_layouts (elements part gs)
  unfolding layout_of
  layouts-same [] [] e = refl
  layouts-same [] (g ∷ gs) e = absurd (omega arith)
  layouts-same (f ∷ fs) [] e = absurd (omega arith)
  layouts-same (f ∷ fs) (g ∷ gs) e = ap (λ ls. layout_of (part g) ∷ ls) (layouts-same fs gs (omega arith))

  pub layouts-count : (gs : List Ground) → length (field_layouts (elements part gs)) ≡ length gs
  unfolding layout_of
  layouts-count [] = refl
  layouts-count (g ∷ gs) = let rest = layouts-count gs in omega arith

  pub public-same : (fs : List Field) (gs : List Ground) → length fs ≡ length gs → list_all (λ f. f.public) fs ≡ all_public (fields_of part fs gs)
  public-same [] gs e = refl
  public-same (f ∷ fs) [] e = absurd (omega arith)
  public-same (f ∷ fs) (g ∷ gs) e = ap (λ b. f.public && b) (public-same fs gs (omega arith))

  pub layouts-at : (vs : List Variant) (types : List (List Ground)) (i : ℕ) (v : Variant) (gs : List Ground) → slice_get vs i ≡ Some v → slice_get types i ≡ Some gs
      → slice_get (variant_layouts (variants_of part vs types)) i ≡ Some (field_layouts (fields_of part v.fields gs))
  unfolding layout_of
  layouts-at [] types i v gs at_v at_gs = cc
  layouts-at (u ∷ vs) [] i v gs at_v at_gs = cc
  layouts-at (u ∷ vs) (hs ∷ types) zero v gs at_v at_gs =
      let same : u ≡ v = cc in
      let typed : hs ≡ gs = cc in
      ap (λ x. Some (field_layouts (fields_of part x.fields hs))) same ∙ ap (λ xs. Some (field_layouts (fields_of part v.fields xs))) typed
  layouts-at (u ∷ vs) (hs ∷ types) (suc i) v gs at_v at_gs = layouts-at vs types i v gs at_v at_gs

-- ---- a named type of a world

module _ (tables : Tables) (id : NamedId) (def : Def) (types : List (List Ground)) (is : IsDefinition tables id def types) where
  abbrev part : Ground → Expanded
  part = expanded_in tables

  counted : are_variants_in_form def.kind def.variants ≡ true
  counted = (in_form tables.profile def is.in_form).counted

  -- written out, where it is one variant
  pub one-whole : (kind : Kind) → def.kind ≡ kind → (one : IsOne def.variants types) → part (Named id) ≡ named tables.profile id kind def.repr (variants_of part (one.variant ∷ []) (one.fields ∷ []))
  one-whole kind e one =
      is.whole ∙ ap (λ k. named tables.profile id k def.repr (variants_of part def.variants types)) e
      ∙ ap (λ vs. named tables.profile id kind def.repr (variants_of part vs types)) one.one ∙ ap (λ gs. named tables.profile id kind def.repr (variants_of part (one.variant ∷ []) gs)) one.typed

  pub only-fields : (one : IsOne def.variants types) → only types ≡ one.fields
  only-fields one = ap only one.typed

  pub only-laid_out : (one : IsOne def.variants types) → EachIs (IsLaidOut tables) (only types)
  only-laid_out one = subst (EachIs (IsLaidOut tables)) (sym (only-fields one)) (is.each 0 one.fields (ap (λ (gs : List (List Ground)). slice_get gs 0) one.typed))

  pub struct-is : def.kind ≡ Struct → IsOne def.variants types
  struct-is e = struct-one def.variants def.kind types e counted is.shaped

  pub union-is : def.kind ≡ Union → IsOne def.variants types
  union-is e = union-one def.variants def.kind types e counted is.shaped
