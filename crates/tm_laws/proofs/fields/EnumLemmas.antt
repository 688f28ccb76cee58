-- The value of an enum by the places of its fields.
use Rattle.std.proofs.Common.{◌≡◌, ℕ, ◌+◌, ◌-◌, ◌<◌, ◌≤◌, inl, inr, ⊎_elim, refl, sym, ◌∙◌, ap, subst, Bool, true, false, ◌↔◌, List, [], ◌∷◌, ◌++◌, map, length, take, drop, get_or, None, arith, length-append, append_assoc}
use Rattle.std.specs.List.{All}
use Rattle.std.proofs.lemmas.List.{get_or_append_left, take-append-drop, length-take-le}
use Rattle.std.proofs.lemmas.List.Elements.{All-get_or, All-from_get_or}
use Rattle.std.proofs.Math.Seq.{take-append_seam}
use Rattle.tm_base.specs.declared.cell.Cell.TheVariants.{Uninit}
use Rattle.tm_base.specs.declared.definition.Kind.TheVariants.{Enum}
use Rattle.tm_base.specs.declared.definition.Repr.{Repr}
use Rattle.tm_base.specs.declared.ground.NamedId.{NamedId}
use Rattle.tm_base.specs.declared.profile.Profile.{Profile}
use Rattle.tm_base.specs.Cells.{Word, IsFree}
use Rattle.tm_base.specs.Expanded.{Fields, Variants, named, no_variants, variant}
use Rattle.tm_base.specs.Layout.{Layout, places, end_of, greatest_size, struct_layout, union_layout, structs, tag_layout, size_of, layout_of, field_layouts, variant_layouts}
use Rattle.tm_base.specs.Places.{fields_place, first_place, variant_places}
use Rattle.tm_base.specs.Transmutes.{holds}
use Rattle.tm_base.specs.Valid.{Valid, FieldsValid, SomeVariantValid, IsTag}
use Rattle.tm_base.proofs.LayoutLemmas.{tagged-end}
use Rattle.tm_laws.specs.SliceLaws.{HoldsAt, SomeVariantHolds, EnumsHoldTheirFields}
use Rattle.tm_laws.proofs.fields.PlacesLemmas.{union_place, union-inside}
use Rattle.tm_laws.proofs.fields.SliceLemmas.{fields-hold, hold-fields, covered-from, below_or_not, cell-behind, end-from}
use Rattle.tm_laws.proofs.fields.StructLemmas.{unshifted}

module _ (A : ℕ → ℕ → Type 0) (keep : Bool) where
  -- fields that hold from a place on hold from an earlier one, where all cells between are free
  held-earlier : (from later : ℕ) (stands : List ℕ) (members : Fields) (w : Word)
      → ((i : ℕ) → from ≤ i → i < later → i < length w → IsFree (get_or w i Uninit)) → HoldsAt A keep later stands members w → HoldsAt A keep from stands members w
  held-earlier from later stands members w between h =
      record {
        holds_fields = h.holds_fields;
        free_between = record {
          free = λ i above below none. ⊎_elim
              (λ (before : i < later). between i above before below)
              (λ (past : later ≤ i). h.free_between.free i past below none)
              (below_or_not i later);
        };
      }

  held-later : (from later : ℕ) (stands : List ℕ) (members : Fields) (w : Word) → from ≤ later → HoldsAt A keep from stands members w → HoldsAt A keep later stands members w
  held-later from later stands members w less h =
      record {
        holds_fields = h.holds_fields;
        free_between = record { free = λ i above below none. h.free_between.free i (omega (arith, above, less)) below none };
      }

  -- One variant whose fields begin at a place of their own struct, which stands so far behind the front of the word:
  -- behind a tag of n cells and a gap.
  module _ (P : Word → Type 0) (n shift first begin : ℕ) (stands_at : begin ≡ shift + first) (tag_size : (u : Word) → P u → length u ≡ n) (behind_tag : n ≤ begin) where
    abbrev stands : Fields → List ℕ
    stands members = map (λ p. shift + p) (places None first (field_layouts members))

    abbrev InTurn : Fields → Word → Type 0
    InTurn members w =
        (front : Word) × (gap : Word) × (others : Word) × (w ≡ front ++ (gap ++ others))
        × P front × (length front + length gap ≡ begin) × All IsFree gap × FieldsValid A keep None first members others

    variant-holds : (members : Fields) (w : Word) → InTurn members w → P (take n w) × HoldsAt A keep n (stands members) members w
    variant-holds members w (front, gap, others, e, tag, place, free, valid) =
        let size = tag_size front tag in
        let cut : take n w ≡ front = rw e (subst (λ (k : ℕ). take k (front ++ (gap ++ others)) ≡ front) size (take-append_seam front (gap ++ others))) in
        let long : length (front ++ gap) ≡ shift + first = length-append front gap ∙ omega (arith, place, stands_at) in
        let same : w ≡ (front ++ gap) ++ others = e ∙ sym (append_assoc front gap others) in
        let held = fields-hold A keep None shift first members (front ++ gap) others long valid in
        let here : HoldsAt A keep (shift + first) (stands members) members w = rw same held in (
          rw cut tag,
          held-earlier n (shift + first) (stands members) members w
              (λ i above before below.
              let j : length front + (i - length front) ≡ i = omega (arith, size, above) in
              let inside : i - length front < length gap = omega (arith, size, place, stands_at, before, above) in
              rw (e, cell-behind front (gap ++ others) (i - length front) i j, get_or_append_left gap others Uninit (i - length front) inside)
              (All-get_or IsFree gap (i - length front) Uninit inside free))
              here,
        )

    holds-variant : (members : Fields) (w : Word) → shift + end_of None first (field_layouts members) ≤ length w → begin ≤ length w
        → P (take n w) → HoldsAt A keep n (stands members) members w → InTurn members w
    holds-variant members w room enough tag h =
        let front = take n w in
        let left = drop n w in
        let gap = take (begin - n) left in
        let others = drop (begin - n) left in
        let e1 : front ++ left ≡ w = take-append-drop n w in
        let e2 : gap ++ others ≡ left = take-append-drop (begin - n) left in
        let e : w ≡ front ++ (gap ++ others) = sym (rw e2 e1) in
        let size : length front ≡ n = tag_size front tag in
        let split : length front + length left ≡ length w = sym (length-append front left) ∙ ap length e1 in
        let wide : length gap ≡ begin - n = length-take-le (begin - n) left (omega (arith, size, split, enough, behind_tag)) in
        let long : length (front ++ gap) ≡ shift + first = length-append front gap ∙ omega (arith, size, wide, stands_at, behind_tag) in
        let same : w ≡ (front ++ gap) ++ others = e ∙ sym (append_assoc front gap others) in
        let later = held-later n (shift + first) (stands members) members w (omega (arith, behind_tag, stands_at)) h in (
          front,
          gap,
          others,
          e,
          tag,
          omega (arith, size, wide, behind_tag),
          All-from_get_or IsFree gap Uninit (λ j below.
              let cell : get_or w (length front + j) Uninit ≡ get_or gap j Uninit =
              ap (λ (v : Word). get_or v (length front + j) Uninit) e ∙ cell-behind front (gap ++ others) j (length front + j) refl ∙ get_or_append_left gap others Uninit j below in
              let within : length front + j < length w = omega (arith, size, wide, enough, below, behind_tag) in
              subst IsFree cell (h.free_between.free (length front + j) (omega (arith, size)) within
              (λ covered. let from = covered-from None shift first (field_layouts members) (length front + j) covered in omega (arith, from, stands_at, size, wide, below, behind_tag)))),
          hold-fields A keep None shift first members (front ++ gap) others long (rw (← same) room) (rw same at later),
        )

-- each variant's fields end inside so many cells
abbrev Room : ℕ → ℕ → ℕ → Variants → Type 0
Room shift first size no_variants = Unit {0}
Room shift first size (variant value members rest) = (shift + end_of None first (field_layouts members) ≤ size) × Room shift first size rest

-- in a union of structs behind a tag
union-room : (begin size : ℕ) (vs : Variants) → begin + greatest_size (structs [] (variant_layouts vs)) ≤ size → Room begin 0 size vs
unfolding layout_of
union-room begin size no_variants h = tt
union-room begin size (variant value members rest) h = (omega arith, union-room begin size rest (omega arith))

-- in a union of structs that the tag begins
tagged-room : (tag : Layout) (size : ℕ) (vs : Variants) → greatest_size (structs (tag ∷ []) (variant_layouts vs)) ≤ size → Room 0 tag.size size vs
unfolding layout_of
tagged-room tag size no_variants h = tt
tagged-room tag size (variant value members rest) h =
    let end : end_of None 0 (tag ∷ field_layouts members) ≡ end_of None tag.size (field_layouts members) = tagged-end tag (field_layouts members) in
    (omega (arith, end), tagged-room tag size rest (omega arith))

module _ (A : ℕ → ℕ → Type 0) (keep : Bool) (profile : Profile) (repr : Repr) (shift first begin : ℕ) (stands_at : begin ≡ shift + first)
    (behind : (tag_layout profile repr.tag).size ≤ begin)
    (stand : (members : Fields) → map (λ p. shift + p) (places None first (field_layouts members)) ≡ variant_places profile repr begin (field_layouts members)) where
  abbrev n : ℕ
  n = (tag_layout profile repr.tag).size

  some-holds : (vs : Variants) (w : Word) → SomeVariantValid A keep profile repr.tag begin first vs w → SomeVariantHolds A keep profile repr begin vs w
  unfolding Valid SomeVariantHolds
  some-holds no_variants w h = h
  some-holds (variant value members rest) w (inl h) =
      let both = variant-holds A keep (IsTag profile n value) n shift first begin stands_at (λ u tag. tag.0.0) behind members w h in
      inl (both.0, subst (λ (ps : List ℕ). HoldsAt A keep n ps members w) (stand members) both.1)
  some-holds (variant value members rest) w (inr h) = inr (some-holds rest w h)

  holds-some : (vs : Variants) (w : Word) → Room shift first (length w) vs → SomeVariantHolds A keep profile repr begin vs w → SomeVariantValid A keep profile repr.tag begin first vs w
  unfolding Valid SomeVariantHolds
  holds-some no_variants w room h = h
  holds-some (variant value members rest) w room (inl h) =
      let ends = end-from None first (field_layouts members) in
      let fits = room.0 in
      inl (holds-variant A keep (IsTag profile n value) n shift first begin stands_at (λ u tag. tag.0.0) behind members w fits (omega (arith, ends, fits, stands_at)) h.0
      (subst (λ (ps : List ℕ). HoldsAt A keep n ps members w) (sym (stand members)) h.1))
  holds-some (variant value members rest) w room (inr h) = inr (holds-some rest w room.1 h)

-- what is said of a variant's places is said of numbers that are equal to them
moved : (A : ℕ → ℕ → Type 0) (keep : Bool) (profile : Profile) (repr : Repr) (vs : Variants) (w : Word) (begin first begin' first' : ℕ) → begin' ≡ begin → first' ≡ first
    → SomeVariantValid A keep profile repr.tag begin first vs w ↔ SomeVariantHolds A keep profile repr begin vs w
    → SomeVariantValid A keep profile repr.tag begin' first' vs w ↔ SomeVariantHolds A keep profile repr begin' vs w
moved A keep profile repr vs w begin first begin' first' e f both =
    subst (λ (b : ℕ). SomeVariantValid A keep profile repr.tag b first' vs w ↔ SomeVariantHolds A keep profile repr b vs w) (sym e)
    (subst (λ (k : ℕ). SomeVariantValid A keep profile repr.tag begin k vs w ↔ SomeVariantHolds A keep profile repr begin vs w) (sym f) both)

-- the layout of the tag
abbrev tag_of : Profile → Repr → Layout
tag_of profile repr = tag_layout profile repr.tag

by-union : (A : ℕ → ℕ → Type 0) (keep : Bool) (profile : Profile) (id : NamedId) (repr : Repr) (vs : Variants) (w : Word) → repr.c ≡ true
    → length w ≡ size_of (named profile id Enum repr vs)
    → SomeVariantValid A keep profile repr.tag (fields_place profile repr vs) (first_place profile repr) vs w ↔ SomeVariantHolds A keep profile repr (fields_place profile repr vs) vs w
unfolding layout_of
by-union A keep profile id repr vs w e long =
    let begin = union_place (tag_of profile repr) (variant_layouts vs) in
    let inside = union-inside (tag_of profile repr) (variant_layouts vs) in
    let size : size_of (named profile id Enum repr vs) ≡ (struct_layout None None (tag_of profile repr ∷ union_layout None None (structs [] (variant_layouts vs)) ∷ [])).size = rw e refl in
    let room : Room begin 0 (length w) vs = union-room begin (length w) vs (omega (arith, inside, size, long)) in
    let stand : (members : Fields) → map (λ p. begin + p) (places None 0 (field_layouts members)) ≡ variant_places profile repr begin (field_layouts members) = λ members. rw e refl in
    moved A keep profile repr vs w begin 0 (fields_place profile repr vs) (first_place profile repr) (rw e refl) (rw e refl) (
      some-holds A keep profile repr begin 0 begin (omega arith) (omega arith) stand vs w,
      holds-some A keep profile repr begin 0 begin (omega arith) (omega arith) stand vs w room,
    )

by-tag : (A : ℕ → ℕ → Type 0) (keep : Bool) (profile : Profile) (id : NamedId) (repr : Repr) (vs : Variants) (w : Word) → repr.c ≡ false
    → length w ≡ size_of (named profile id Enum repr vs)
    → SomeVariantValid A keep profile repr.tag (fields_place profile repr vs) (first_place profile repr) vs w ↔ SomeVariantHolds A keep profile repr (fields_place profile repr vs) vs w
unfolding layout_of
by-tag A keep profile id repr vs w e long =
    let begin = (tag_of profile repr).size in
    let size : size_of (named profile id Enum repr vs) ≡ (union_layout None None (structs (tag_of profile repr ∷ []) (variant_layouts vs))).size = rw e refl in
    let room : Room 0 begin (length w) vs = tagged-room (tag_of profile repr) (length w) vs (omega (arith, size, long)) in
    let stand : (members : Fields) → map (λ p. 0 + p) (places None begin (field_layouts members)) ≡ variant_places profile repr begin (field_layouts members) =
    λ members. unshifted (places None begin (field_layouts members)) ∙ rw e refl in
    moved A keep profile repr vs w begin begin (fields_place profile repr vs) (first_place profile repr) (rw e refl) (rw e refl) (
      some-holds A keep profile repr 0 begin begin (omega arith) (omega arith) stand vs w,
      holds-some A keep profile repr 0 begin begin (omega arith) (omega arith) stand vs w room,
    )

pub enum-by-places : EnumsHoldTheirFields
unfolding Valid
enum-by-places A keep profile id repr vs w =
    (λ (long, some). (long, (go repr.c refl long).0 some), λ (long, some). (long, (go repr.c refl long).1 some))
  where
    go : (c : Bool) → repr.c ≡ c → length w ≡ size_of (named profile id Enum repr vs)
        → SomeVariantValid (holds A) keep profile repr.tag (fields_place profile repr vs) (first_place profile repr) vs w ↔ SomeVariantHolds (holds A) keep profile repr (fields_place profile repr vs) vs w
    go true e long = by-union (holds A) keep profile id repr vs w e long
    go false e long = by-tag (holds A) keep profile id repr vs w e long
