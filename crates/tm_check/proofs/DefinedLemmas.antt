-- A named type by its definition: what its cells begin, by its fields.
use Rattle.std.proofs.Common.{◌≡◌, ℕ, ◌+◌, refl, sym, ◌∙◌, ap, subst, Bool, true, false, ◌&&◌, ◌||◌, if◌then◌else◌, List, [], ◌∷◌, length, take, drop, ◌-◌, slice_get, arith}
use Rattle.std.proofs.lemmas.List.{length-map}
use Rattle.std.specs.List.{list_all}
use Rattle.tm_base.specs.declared.definition.Def.{Def}
use Rattle.tm_base.specs.declared.definition.Field.{Field}
use Rattle.tm_base.specs.declared.definition.Kind.TheVariants.{Struct, Union}
use Rattle.tm_base.specs.declared.definition.Variant.{Variant}
use Rattle.tm_base.specs.declared.ground.Ground.{Ground, Named}
use Rattle.tm_base.specs.declared.ground.NamedId.{NamedId}
use Rattle.tm_base.specs.Expanded.{Expanded, elements, fields_of, named}
use Rattle.tm_base.specs.Cells.{Word}
use Rattle.tm_base.specs.Layout.{Layout, field_layouts, layout_of, only, places, size_of}
use Rattle.tm_base.specs.Places.{at_front}
use Rattle.tm_base.specs.Tables.{Tables, expanded_in}
use Rattle.tm_base.specs.Valid.{all_public}
use Rattle.tm_base.specs.ValidTest.{is_free}
use Rattle.tm_layout.specs.Made.{EachIs}
use Rattle.tm_layout.proofs.DefinitionLemmas.{in_form}
use Rattle.tm_layout.specs.LaidOut.{AreFieldsOf, IsDefinition, IsLaidOut, places_at}
use Rattle.tm_layout.proofs.VariantLemmas.{IsOne, few-fields, layouts-count, layouts-same, one-whole, only-fields, only-laid_out, places-count, public-same, struct-is, total-at, union-is}
use Rattle.tm_check.specs.Begins.{begins, fields_begin, some_field_begins, struct_places}

-- ---- what is said of fields by their types alone

module _ (part : Ground → Expanded) (A : ℕ → ℕ → Bool) (keep : Bool) where
  pub fields-same : (at : ℕ) (ps : List ℕ) (fs : List Field) (gs : List Ground) (w : Word) → length fs ≡ length gs
      → fields_begin A keep at ps (fields_of part fs gs) w ≡ fields_begin A keep at ps (elements part gs) w
  unfolding begins
  fields-same at ps [] [] w e = refl
  fields-same at ps [] (g ∷ gs) w e = absurd (omega arith)
  fields-same at ps (f ∷ fs) [] w e = absurd (omega arith)
  fields-same at [] (f ∷ fs) (g ∷ gs) w e = refl
  fields-same at (place ∷ ps) (f ∷ fs) (g ∷ gs) w e =
      ap (λ b. list_all is_free (take (place - at) w) && (begins A keep (part g) (take (size_of (part g)) (drop (place - at) w)) && b))
      (fields-same (place + size_of (part g)) ps fs gs (drop (size_of (part g)) (drop (place - at) w)) (omega arith))

  pub some-same : (fs : List Field) (gs : List Ground) (w : Word) → length fs ≡ length gs → some_field_begins A keep (fields_of part fs gs) w ≡ some_field_begins A keep (elements part gs) w
  unfolding begins
  some-same [] [] w e = refl
  some-same [] (g ∷ gs) w e = absurd (omega arith)
  some-same (f ∷ fs) [] w e = absurd (omega arith)
  some-same (f ∷ fs) (g ∷ gs) w e = ap (λ b. (begins A keep (part g) (take (size_of (part g)) w) && list_all is_free (drop (size_of (part g)) w)) || b) (some-same fs gs w (omega arith))

and-true : (b : Bool) → (b && true) ≡ b
and-true true = refl
and-true false = refl

-- ---- a named type of a world

module _ (tables : Tables) (id : NamedId) (def : Def) (types : List (List Ground)) (is : IsDefinition tables id def types) where
  abbrev part : Ground → Expanded
  part = expanded_in tables

  abbrev is_public : Bool
  is_public = list_all (λ v. list_all (λ f. f.public) v.fields) def.variants

  public-one : (one : IsOne def.variants types) → is_public ≡ all_public (fields_of part one.variant.fields one.fields)
  public-one one =
      ap (list_all (λ v. list_all (λ f. f.public) v.fields)) one.one ∙ and-true (list_all (λ f. f.public) one.variant.fields) ∙ public-same part one.variant.fields one.fields one.count

  struct-places : (e : def.kind ≡ Struct) → places_at (part (Named id)) 0 ≡ struct_places def.repr (field_layouts (fields_of part (struct-is tables id def types is e).variant.fields (struct-is tables id def types is e).fields))
  unfolding layout_of
  struct-places e = ap (λ t. places_at t 0) (one-whole tables id def types is Struct e (struct-is tables id def types is e))

  places-counted : (t : Bool) (ls : List Layout) → length ((if t then at_front else places def.repr.packed 0) ls) ≡ length ls
  places-counted true ls = length-map ls (λ l. 0)
  places-counted false ls = places-count def.repr.packed 0 ls

  pub struct-fields : def.kind ≡ Struct → AreFieldsOf tables id 0 (only types)
  struct-fields e =
      let one = struct-is tables id def types is e in
      let total = few-fields tables.profile def is.in_form in
      let most = total-at def.variants 0 one.variant (ap (λ (vs : List Variant). slice_get vs 0) one.one) in
      let of_one : AreFieldsOf tables id 0 one.fields = record {
        each = subst (EachIs (IsLaidOut tables)) (only-fields tables id def types is one) (only-laid_out tables id def types is one);
        few = omega (arith, one.count);
        sound = is.sound;
        count = ap (λ xs. length xs) (struct-places e) ∙ places-counted def.repr.transparent (field_layouts (fields_of part one.variant.fields one.fields))
            ∙ ap (λ xs. length xs) (layouts-same part one.variant.fields one.fields one.count) ∙ layouts-count part one.fields;
      } in
      subst (AreFieldsOf tables id 0) (sym (only-fields tables id def types is one)) of_one

  module _ (A : ℕ → ℕ → Bool) (keep : Bool) (w : Word) where
    pub struct-begins : def.kind ≡ Struct → begins A keep (part (Named id)) w ≡ ((keep || is_public) && fields_begin A keep 0 (places_at (part (Named id)) 0) (elements part (only types)) w)
    unfolding begins
    struct-begins e =
        let one = struct-is tables id def types is e in
        let members = fields_of part one.variant.fields one.fields in
        ap (λ t. begins A keep t w) (one-whole tables id def types is Struct e one)
        ∙ ap (λ ps. (keep || all_public members) && fields_begin A keep 0 ps members w) (sym (struct-places e))
        ∙ ap (λ b. (keep || all_public members) && b) (fields-same part A keep 0 (places_at (part (Named id)) 0) one.variant.fields one.fields w one.count)
        ∙ ap (λ b. (keep || b) && fields_begin A keep 0 (places_at (part (Named id)) 0) (elements part one.fields) w) (sym (public-one one))
        ∙ ap (λ gs. (keep || is_public) && fields_begin A keep 0 (places_at (part (Named id)) 0) (elements part gs) w) (sym (only-fields tables id def types is one))

    pub union-begins : def.kind ≡ Union → begins A keep (part (Named id)) w ≡ ((keep || is_public) && some_field_begins A keep (elements part (only types)) w)
    unfolding begins
    union-begins e =
        let one = union-is tables id def types is e in
        let members = fields_of part one.variant.fields one.fields in
        ap (λ t. begins A keep t w) (one-whole tables id def types is Union e one)
        ∙ ap (λ b. (keep || all_public members) && b) (some-same part A keep one.variant.fields one.fields w one.count)
        ∙ ap (λ b. (keep || b) && some_field_begins A keep (elements part one.fields) w) (sym (public-one one))
        ∙ ap (λ gs. (keep || is_public) && some_field_begins A keep (elements part gs) w) (sym (only-fields tables id def types is one))
