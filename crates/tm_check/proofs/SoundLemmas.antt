-- What the test takes goes on: cells behind those that are told make a word of the type.
use Rattle.std.proofs.Common.{◌≡◌, ℕ, ◌+◌, ◌-◌, ◌<◌, ◌≤◌, ◌⊎◌, inl, inr, ⊎_elim, sym, ◌∙◌, ap, Bool, true, false, ◌&&◌, ◌||◌, List, [], ◌++◌, length, take, drop, map, Option, None, arith}
use Rattle.std.proofs.lemmas.List.{length-append, length-take, length-drop, nil_from_length}
use Rattle.std.specs.List.{list_all}
use Rattle.tm_base.specs.declared.definition.Kind.TheVariants.{Struct, Union, Enum}
use Rattle.tm_base.specs.declared.definition.Repr.{Repr}
use Rattle.tm_base.specs.declared.ground.NamedId.{NamedId}
use Rattle.tm_base.specs.declared.profile.Profile.{Profile}
use Rattle.tm_base.specs.declared.profile.Profile.TheVariants.{Le64, Be64, Le32}
use Rattle.tm_base.specs.Cells.{Word, own}
use Rattle.tm_base.specs.Expanded.{Expanded, Fields, Variants, too_deep, prim, never, unit, tuple, array, nonzero, phantom, wrap, ref, named, no_fields, field, no_variants, variant}
use Rattle.tm_base.specs.Faults.{has_cause, has_no_layout}
use Rattle.tm_base.specs.Layout.{Layout, end_of, field_layouts, greatest_size, layout_of, only, place_at, places, prim_size, size_of, tag_layout, variant_layouts}
use Rattle.tm_base.specs.Parts.{some_part, some_field, some_variant, some_within}
use Rattle.tm_base.specs.Places.{fields_place, first_place, variant_places}
use Rattle.tm_base.specs.Profiles.{pointer_size}
use Rattle.tm_base.specs.Transmutes.{holds}
use Rattle.tm_base.specs.Valid.{Valid, StructValid, UnionValid, FieldsValid, SomeFieldValid, SomeVariantValid, all_public}
use Rattle.tm_base.specs.ValidTest.{is_free}
use Rattle.tm_base.proofs.ValidLemmas.{Valid-length}
use Rattle.tm_layout.proofs.TableLemmas.{first_false, second_false}
use Rattle.tm_check.specs.Begins.{begins, fields_begin, some_field_begins, some_variant_begins, struct_begins, struct_places, union_begins}
use Rattle.tm_check.specs.Numbers.{tag_begins}
use Rattle.tm_check.proofs.CutLemmas.{both, either, join}
use Rattle.tm_check.proofs.FieldLemmas.{fields-behind, fields-shifted}
use Rattle.tm_check.proofs.LeafLemmas.{free-sound, nonzero-sound, tag-sound}
use Rattle.tm_check.proofs.PartLemmas.{GoesTo, IsSound, IsSoundTo, times-sound, follows-sound}
use Rattle.tm_layout.proofs.EndLemmas.{VariantsEnd, end-above, place-above, tag-below, union-size, variants-end}
use Rattle.tm_check.proofs.ReferenceLemmas.{ref-sound, wrap-sound}
use Rattle.tm_check.proofs.ScalarLemmas.{prim-sound}
use Rattle.tm_check.proofs.TransparentLemmas.{stands, struct_placed}

-- references hold what the test says, and themselves where not each cell is told
abbrev pub Loose : (ℕ → ℕ → Bool) → Type 0 → ℕ → ℕ → Type 0
Loose A E x t = holds A x t ⊎ (E × (x ≡ own t))

pointer-some : (profile : Profile) → 0 < pointer_size profile
pointer-some Le64 = omega arith
pointer-some Be64 = omega arith
pointer-some Le32 = omega arith

module _ (A : ℕ → ℕ → Bool) (keep : Bool) (E : Type 0) where
  abbrev L : ℕ → ℕ → Type 0
  L = Loose A E

  mutual
    unfolding Valid begins layout_of some_part

    pub sound : (t : Expanded) → has_no_layout t ≡ false → IsSound E (size_of t) (begins A keep t) (Valid L keep t)
    sound too_deep ok w h short unknown = cc
    sound (prim profile p) ok w h short unknown = prim-sound profile p w h
    sound never ok w h short unknown = cc
    sound unit ok w h short unknown = ([], ap (λ u. u ++ []) (nil_from_length w (omega arith)))
    sound (tuple members) ok w h short unknown = cc
    sound (array t n) ok w h short unknown =
        times-sound (size_of t) (begins A keep t) (Valid L keep t) (λ u. Valid-length L keep t u) E
        (λ u. sound t (second_false (has_cause (array t n)) (some_within has_cause t) ok) u) n w h short unknown
    sound (nonzero profile p) ok w h short unknown = nonzero-sound profile (prim_size profile p) w h
    sound phantom ok w h short unknown = ([], ap (λ u. u ++ []) (nil_from_length w (omega arith)))
    sound (wrap k t) ok w h short unknown =
        wrap-sound (size_of t) (begins A keep t) (Valid L keep t) k w h
        (λ here. sound t (second_false (has_cause (wrap k t)) (some_within has_cause t) ok) w here short unknown) short
    sound (ref profile t) ok w h short unknown = ref-sound A E (pointer_size profile) t.0 w (pointer-some profile) h unknown
    sound (named profile id Struct repr vs) ok w h short unknown = let (rest, long, valid) = struct-sound profile id repr vs ok w h short unknown in (rest, (long, valid))
    sound (named profile id Union repr vs) ok w h short unknown =
        let (rest, long, valid) = union-sound (size_of (named profile id Union repr vs)) vs (second_false (has_cause (named profile id Union repr vs)) (some_variant has_cause vs) ok)
        (union-size profile id repr vs) w h short unknown in
        (rest, (long, valid))
    sound (named profile id Enum repr vs) ok w h short unknown =
        let begin = fields_place profile repr vs in
        let (shift, stand, at) = stands profile repr vs in
        let (rest, long, valid) = some_variant-sound profile repr begin shift (first_place profile repr) at stand (tag-below profile id repr vs) (size_of (named profile id Enum repr vs))
        vs (second_false (has_cause (named profile id Enum repr vs)) (some_variant has_cause vs) ok) (variants-end profile id repr vs) w h short unknown in
        (rest, (long, valid))

    struct-sound : (profile : Profile) (id : NamedId) (repr : Repr) (vs : Variants) → has_no_layout (named profile id Struct repr vs) ≡ false
        → (w : Word) → struct_begins A keep repr vs w ≡ true → length w ≤ size_of (named profile id Struct repr vs) → (length w < size_of (named profile id Struct repr vs) → E)
        → GoesTo (size_of (named profile id Struct repr vs)) (StructValid L keep repr.packed vs) w
    struct-sound profile id repr no_variants ok w h short unknown = cc
    struct-sound profile id repr (variant value members others) ok w h short unknown =
        let t : Expanded = named profile id Struct repr (variant value members others) in
        let (made, fields) = both (keep || all_public members) (fields_begin A keep 0 (struct_places repr (field_layouts members)) members w) h in
        let parts = first_false (some_field has_cause members) (some_variant has_cause others) (second_false (has_cause t) (some_variant has_cause (variant value members others)) ok) in
        let (placed, end) = struct_placed A keep profile id repr value members others ok w in
        let (rest, long, valid) = fields-sound repr.packed 0 (size_of t) members parts end w (placed ∙ fields) short unknown in
        (rest, long, (made, valid))

    union-sound : (m : ℕ) (vs : Variants) → some_variant has_cause vs ≡ false → greatest_size (only (variant_layouts vs)) ≤ m → IsSoundTo E m (union_begins A keep vs) (UnionValid L keep vs)
    union-sound m no_variants ok room w h short unknown = cc
    union-sound m (variant value members others) ok room w h short unknown =
        let (made, some) = both (keep || all_public members) (some_field_begins A keep members w) h in
        let (rest, long, valid) = some_field-sound m members (first_false (some_field has_cause members) (some_variant has_cause others) ok) room w some short unknown in
        (rest, long, (made, valid))

    fields-sound : (packed : Option ℕ) (at m : ℕ) (members : Fields) → some_field has_cause members ≡ false → end_of packed at (field_layouts members) ≤ at + m
        → IsSoundTo E m (fields_begin A keep at (places packed at (field_layouts members)) members) (FieldsValid L keep packed at members)
    fields-sound packed at m no_fields ok end w h short unknown = free-sound m w h short
    fields-sound packed at m (field public t rest) ok end w h short unknown =
        let p = place_at packed at (layout_of t) in
        let s = size_of t in
        let above = place-above packed at (layout_of t) in
        let further = end-above packed (p + s) (field_layouts rest) in
        let here = first_false (some_within has_cause t) (some_field has_cause rest) ok in
        let others = second_false (some_within has_cause t) (some_field has_cause rest) ok in
        let (r, long, (front, part, back, e, wide, free, valid, behind)) =
        follows-sound s (begins A keep t) (Valid L keep t) (λ u. Valid-length L keep t u)
        (fields_begin A keep (p + s) (places packed (p + s) (field_layouts rest)) rest) (FieldsValid L keep packed (p + s) rest) (p - at) m E
        (λ u. sound t here u) (omega arith) (λ u. fields-sound packed (p + s) (m - (p - at + s)) rest others (omega arith) u) w h short unknown in
        (r, long, (front, part, back, e, omega arith, free, valid, behind))

    some_field-sound : (m : ℕ) (members : Fields) → some_field has_cause members ≡ false → greatest_size (field_layouts members) ≤ m
        → IsSoundTo E m (some_field_begins A keep members) (SomeFieldValid L keep members)
    some_field-sound m no_fields ok room w h short unknown = cc
    some_field-sound m (field public t rest) ok room w h short unknown =
        let s = size_of t in
        let here = first_false (some_within has_cause t) (some_field has_cause rest) ok in
        let others = second_false (some_within has_cause t) (some_field has_cause rest) ok in
        ⊎_elim
        (λ (first : (begins A keep t (take s w) && list_all is_free (drop s w)) ≡ true).
        let (part, free) = both (begins A keep t (take s w)) (list_all is_free (drop s w)) first in
        let a = length-take s w in
        let b = length-drop s w in
        let (before, valid) = sound t here (take s w) part (omega arith) (λ less. unknown (omega (arith, less))) in
        let (behind, long, all) = free-sound (m - s) (drop s w) free (omega arith) in
        let size = Valid-length L keep t (take s w ++ before) valid in
        let (r, e) = join s w before behind size in
        let total : length (w ++ r) ≡ length (take s w ++ before) + length (drop s w ++ behind) = ap length (sym e) ∙ length-append (take s w ++ before) (drop s w ++ behind) in
        (r, omega arith, inl (take s w ++ before, drop s w ++ behind, sym e, valid, all)))
        (λ (further : some_field_begins A keep rest w ≡ true). let (r, long, valid) = some_field-sound m rest others (omega arith) w further short unknown in (r, long, inr valid))
        (either (begins A keep t (take s w) && list_all is_free (drop s w)) (some_field_begins A keep rest w) h)

    some_variant-sound : (profile : Profile) (repr : Repr) (begin shift first : ℕ) → begin ≡ shift + first
        → ((ls : List Layout) → variant_places profile repr begin ls ≡ map (λ p. shift + p) (places None first ls))
        → (tag_layout profile repr.tag).size ≤ begin → (m : ℕ) (vs : Variants) → some_variant has_cause vs ≡ false → VariantsEnd begin first m (variant_layouts vs)
        → IsSoundTo E m (some_variant_begins A keep profile repr begin vs) (SomeVariantValid L keep profile repr.tag begin first vs)
    some_variant-sound profile repr begin shift first at stand behind_tag m no_variants ok ends w h short unknown = cc
    some_variant-sound profile repr begin shift first at stand behind_tag m (variant value members rest) ok (inside, end, ends) w h short unknown =
        let n = (tag_layout profile repr.tag).size in
        let ps = variant_places profile repr begin (field_layouts members) in
        let here = first_false (some_field has_cause members) (some_variant has_cause rest) ok in
        let others = second_false (some_field has_cause members) (some_variant has_cause rest) ok in
        ⊎_elim
        (λ (one : (tag_begins profile n value (take n w) && fields_begin A keep n ps members (drop n w)) ≡ true).
        let (tag, fields) = both (tag_begins profile n value (take n w)) (fields_begin A keep n ps members (drop n w)) one in
        let v = drop n w in
        let k = begin - n in
        let moved : fields_begin A keep n ps members v ≡ (list_all is_free (take k v) && fields_begin A keep first (places None first (field_layouts members)) members (drop k v)) =
        ap (λ qs. fields_begin A keep n qs members v) (stand (field_layouts members)) ∙ fields-behind A keep shift n begin first members v at behind_tag
        ∙ ap (λ (i : ℕ). list_all is_free (take k v) && fields_begin A keep i (map (λ p. shift + p) (places None first (field_layouts members))) members (drop k v)) at
        ∙ ap (λ c. list_all is_free (take k v) && c) (fields-shifted A keep shift first (places None first (field_layouts members)) members (drop k v)) in
        let (free, placed) = both (list_all is_free (take k v)) (fields_begin A keep first (places None first (field_layouts members)) members (drop k v)) (sym moved ∙ fields) in
        let a = length-take n w in
        let b = length-drop n w in
        let c = length-take k v in
        let d = length-drop k v in
        let (before, is_tag) = tag-sound profile n value (take n w) tag in
        let (fill, wide, gap) = free-sound k (take k v) free (omega arith) in
        let (behind, long, valid) = fields-sound None first (m - begin) members here end (drop k v) placed (omega arith) (λ less. unknown (omega (arith, less))) in
        let (r, e) = join k v fill behind wide in
        let (r2, f) = join n w before r is_tag.0.0 in
        let front = take n w ++ before in
        let whole : w ++ r2 ≡ front ++ ((take k v ++ fill) ++ (drop k v ++ behind)) = sym (ap (λ u. front ++ u) e ∙ f) in
        let total : length (w ++ r2) ≡ length front + (length (take k v ++ fill) + length (drop k v ++ behind)) =
        ap length whole ∙ length-append front ((take k v ++ fill) ++ (drop k v ++ behind)) ∙ ap (λ (i : ℕ). length front + i) (length-append (take k v ++ fill) (drop k v ++ behind)) in
        let sized = is_tag.0.0 in
        (r2, omega arith, inl (front, take k v ++ fill, drop k v ++ behind, whole, is_tag, omega arith, gap, valid)))
        (λ (further : some_variant_begins A keep profile repr begin rest w ≡ true).
        let (r, long, valid) = some_variant-sound profile repr begin shift first at stand behind_tag m rest others ends w further short unknown in (r, long, inr valid))
        (either (tag_begins profile n value (take n w) && fields_begin A keep n ps members (drop n w)) (some_variant_begins A keep profile repr begin rest w) h)
