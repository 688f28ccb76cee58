-- What goes on to a word of a type is taken by the test.
use Rattle.std.proofs.Common.{◌≡◌, ℕ, ◌+◌, ◌-◌, ◌≤◌, inl, inr, refl, sym, ◌∙◌, ap, subst, Bool, false, ◌&&◌, ◌||◌, List, ◌++◌, length, take, drop, map, Option, None, arith}
use Rattle.std.specs.List.{list_all}
use Rattle.tm_base.specs.declared.definition.Kind.TheVariants.{Struct, Union, Enum}
use Rattle.tm_base.specs.declared.definition.Repr.{Repr}
use Rattle.tm_base.specs.declared.ground.NamedId.{NamedId}
use Rattle.tm_base.specs.declared.profile.Profile.{Profile}
use Rattle.tm_base.specs.Expanded.{Expanded, Fields, Variants, too_deep, prim, never, unit, tuple, array, nonzero, phantom, wrap, ref, named, no_fields, field, no_variants, variant}
use Rattle.tm_base.specs.Faults.{has_cause, has_no_layout}
use Rattle.tm_base.specs.Layout.{Layout, field_layouts, layout_of, place_at, places, prim_size, size_of, tag_layout}
use Rattle.tm_base.specs.Parts.{some_part, some_field, some_variant, some_within}
use Rattle.tm_base.specs.Places.{fields_place, first_place, variant_places}
use Rattle.tm_base.specs.Profiles.{pointer_size}
use Rattle.tm_base.specs.Transmutes.{holds}
use Rattle.tm_base.specs.Valid.{Valid, StructValid, UnionValid, FieldsValid, SomeFieldValid, SomeVariantValid, IsTag, all_public}
use Rattle.tm_base.specs.ValidTest.{is_free}
use Rattle.tm_base.proofs.ValidLemmas.{Valid-length}
use Rattle.tm_layout.proofs.TableLemmas.{first_false, second_false}
use Rattle.tm_check.specs.Begins.{begins, fields_begin, some_field_begins, some_variant_begins, struct_begins, struct_places, union_begins}
use Rattle.tm_check.specs.Numbers.{tag_begins}
use Rattle.tm_check.proofs.CutLemmas.{and-true, cut_at, front-free, or-first, or-second}
use Rattle.tm_check.proofs.FieldLemmas.{fields-behind, fields-shifted}
use Rattle.tm_check.proofs.LeafLemmas.{nonzero-told, tag-told}
use Rattle.tm_check.proofs.PartLemmas.{IsComplete, times-told, follows-told}
use Rattle.tm_layout.proofs.EndLemmas.{tag-below}
use Rattle.tm_check.proofs.ReferenceLemmas.{ref-told, wrap-told}
use Rattle.tm_check.proofs.ScalarLemmas.{prim-told}
use Rattle.tm_check.proofs.TransparentLemmas.{stands, struct_placed}

module _ (A : ℕ → ℕ → Bool) (keep : Bool) where
  abbrev H : ℕ → ℕ → Type 0
  H = holds A

  mutual
    unfolding Valid begins layout_of some_part

    pub complete : (t : Expanded) → has_no_layout t ≡ false → IsComplete (begins A keep t) (Valid H keep t)
    complete too_deep ok w rest h = elim h [ ]
    complete (prim profile p) ok w rest h = prim-told profile p w rest h
    complete never ok w rest h = elim h [ ]
    complete unit ok w rest h = refl
    complete (tuple members) ok w rest h = elim h [ ]
    complete (array t n) ok w rest h =
        times-told (size_of t) (begins A keep t) (Valid H keep t) (λ u. Valid-length H keep t u)
        (λ u r. complete t (second_false (has_cause (array t n)) (some_within has_cause t) ok) u r) n w rest h
    complete (nonzero profile p) ok w rest h = nonzero-told profile (prim_size profile p) w rest h
    complete phantom ok w rest h = refl
    complete (wrap k t) ok w rest h =
        wrap-told (size_of t) (begins A keep t) (Valid H keep t) k w rest h (λ v. complete t (second_false (has_cause (wrap k t)) (some_within has_cause t) ok) w rest v)
    complete (ref profile t) ok w rest h = ref-told A (pointer_size profile) t.0 w rest h
    complete (named profile id Struct repr vs) ok w rest h = struct-complete profile id repr vs ok w rest h.1
    complete (named profile id Union repr vs) ok w rest h =
        union-complete vs (second_false (has_cause (named profile id Union repr vs)) (some_variant has_cause vs) ok) w rest h.1
    complete (named profile id Enum repr vs) ok w rest h =
        let (shift, stand, at) = stands profile repr vs in
        some_variant-complete profile repr (fields_place profile repr vs) shift (first_place profile repr) at stand (tag-below profile id repr vs)
        vs (second_false (has_cause (named profile id Enum repr vs)) (some_variant has_cause vs) ok) w rest h.1

    struct-complete : (profile : Profile) (id : NamedId) (repr : Repr) (vs : Variants) → has_no_layout (named profile id Struct repr vs) ≡ false
        → IsComplete (struct_begins A keep repr vs) (StructValid H keep repr.packed vs)
    struct-complete profile id repr no_variants ok w rest h = elim h [ ]
    struct-complete profile id repr (variant value members others) ok w rest (made, valid) =
        let t : Expanded = named profile id Struct repr (variant value members others) in
        let parts = first_false (some_field has_cause members) (some_variant has_cause others) (second_false (has_cause t) (some_variant has_cause (variant value members others)) ok) in
        let placed = (struct_placed A keep profile id repr value members others ok w).0 in
        and-true (keep || all_public members) (fields_begin A keep 0 (struct_places repr (field_layouts members)) members w) made (sym placed ∙ fields-complete repr.packed 0 members parts w rest valid)

    union-complete : (vs : Variants) → some_variant has_cause vs ≡ false → IsComplete (union_begins A keep vs) (UnionValid H keep vs)
    union-complete no_variants ok w rest h = elim h [ ]
    union-complete (variant value members others) ok w rest (made, some) =
        and-true (keep || all_public members) (some_field_begins A keep members w) made
        (some_field-complete members (first_false (some_field has_cause members) (some_variant has_cause others) ok) w rest some)

    fields-complete : (packed : Option ℕ) (at : ℕ) (members : Fields) → some_field has_cause members ≡ false
        → IsComplete (fields_begin A keep at (places packed at (field_layouts members)) members) (FieldsValid H keep packed at members)
    fields-complete packed at no_fields ok w rest h = front-free w rest (w ++ rest) refl h
    fields-complete packed at (field public t others) ok w rest (front, here, back, e, place, free, valid, behind) =
        let p = place_at packed at (layout_of t) in
        let s = size_of t in
        let wide : length front ≡ p - at = omega arith in
        follows-told s (begins A keep t) (Valid H keep t) (λ u. Valid-length H keep t u)
        (fields_begin A keep (p + s) (places packed (p + s) (field_layouts others)) others) (FieldsValid H keep packed (p + s) others) (p - at) 0
        (λ u r. complete t (first_false (some_within has_cause t) (some_field has_cause others) ok) u r)
        (λ u r. fields-complete packed (p + s) others (second_false (some_within has_cause t) (some_field has_cause others) ok) u r)
        w rest (front, here, back, e, wide, free, valid, behind)

    some_field-complete : (members : Fields) → some_field has_cause members ≡ false → IsComplete (some_field_begins A keep members) (SomeFieldValid H keep members)
    some_field-complete no_fields ok w rest h = elim h [ ]
    some_field-complete (field public t others) ok w rest (inl (here, back, e, valid, free)) =
        let s = size_of t in
        let ((b, f), (c, g)) = cut_at s w rest here back (Valid-length H keep t here valid) e in
        let part = complete t (first_false (some_within has_cause t) (some_field has_cause others) ok) (take s w) b (subst (Valid H keep t) (sym f) valid) in
        or-first (begins A keep t (take s w) && list_all is_free (drop s w)) (some_field_begins A keep others w)
        (and-true (begins A keep t (take s w)) (list_all is_free (drop s w)) part (front-free (drop s w) c back g free))
    some_field-complete (field public t others) ok w rest (inr h) =
        let s = size_of t in
        or-second (begins A keep t (take s w) && list_all is_free (drop s w)) (some_field_begins A keep others w)
        (some_field-complete others (second_false (some_within has_cause t) (some_field has_cause others) ok) w rest h)

    some_variant-complete : (profile : Profile) (repr : Repr) (begin shift first : ℕ) → begin ≡ shift + first
        → ((ls : List Layout) → variant_places profile repr begin ls ≡ map (λ p. shift + p) (places None first ls))
        → (tag_layout profile repr.tag).size ≤ begin → (vs : Variants) → some_variant has_cause vs ≡ false
        → IsComplete (some_variant_begins A keep profile repr begin vs) (SomeVariantValid H keep profile repr.tag begin first vs)
    some_variant-complete profile repr begin shift first at stand behind_tag no_variants ok w rest h = elim h [ ]
    some_variant-complete profile repr begin shift first at stand behind_tag (variant value members others) ok w rest (inl (front, gap, back, e, is_tag, place, free, valid)) =
        let n = (tag_layout profile repr.tag).size in
        let ps = variant_places profile repr begin (field_layouts members) in
        let v = drop n w in
        let k = begin - n in
        let moved : fields_begin A keep n ps members v ≡ (list_all is_free (take k v) && fields_begin A keep first (places None first (field_layouts members)) members (drop k v)) =
        ap (λ qs. fields_begin A keep n qs members v) (stand (field_layouts members)) ∙ fields-behind A keep shift n begin first members v at behind_tag
        ∙ ap (λ (i : ℕ). list_all is_free (take k v) && fields_begin A keep i (map (λ p. shift + p) (places None first (field_layouts members))) members (drop k v)) at
        ∙ ap (λ c. list_all is_free (take k v) && c) (fields-shifted A keep shift first (places None first (field_layouts members)) members (drop k v)) in
        let sized = is_tag.0.0 in
        let wide : length gap ≡ k = omega arith in
        let ((b1, f1), (b2, f2)) = cut_at n w rest front (gap ++ back) sized e in
        let ((b3, f3), (b4, f4)) = cut_at k v b2 gap back wide f2 in
        let tag = tag-told profile n value (take n w) b1 (subst (IsTag profile n value) (sym f1) is_tag) in
        let parts = fields-complete None first members (first_false (some_field has_cause members) (some_variant has_cause others) ok) (drop k v) b4 (subst (FieldsValid H keep None first members) (sym f4) valid) in
        or-first (tag_begins profile n value (take n w) && fields_begin A keep n ps members v) (some_variant_begins A keep profile repr begin others w)
        (and-true (tag_begins profile n value (take n w)) (fields_begin A keep n ps members v) tag
        (moved ∙ and-true (list_all is_free (take k v)) (fields_begin A keep first (places None first (field_layouts members)) members (drop k v)) (front-free (take k v) b3 gap f3 free) parts))
    some_variant-complete profile repr begin shift first at stand behind_tag (variant value members others) ok w rest (inr h) =
        let n = (tag_layout profile repr.tag).size in
        or-second (tag_begins profile n value (take n w) && fields_begin A keep n (variant_places profile repr begin (field_layouts members)) members (drop n w)) (some_variant_begins A keep profile repr begin others w)
        (some_variant-complete profile repr begin shift first at stand behind_tag others (second_false (some_field has_cause members) (some_variant has_cause others) ok) w rest h)
