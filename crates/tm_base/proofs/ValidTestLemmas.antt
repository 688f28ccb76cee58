-- The test of validity decides validity.
use Rattle.std.proofs.Common.{◌≡◌, ℕ, zero, suc, ◌+◌, ◌-◌, ◌≤◌, refl, sym, subst, Bool, true, false, ◌||◌, ◌&&◌, not, IsTrue, ◌↔◌, [], ◌∷◌, ◌++◌, length, take, drop, replicate, arith, Option, None, ℤ, nat_lt, nat_le, ◌==◌}
use Rattle.std.specs.List.{All, list_all}
use Rattle.std.specs.Bool.{Decides}
use Rattle.std.proofs.lemmas.Bool.Decides.{Decides-eqb, Decides-ltb, Decides-and, Decides-or, nat_tests}
use Rattle.std.proofs.lemmas.List.{take-append-drop}
use Rattle.std.proofs.lemmas.List.Elements.{All-head, All-tail, All-cons, All-nil}
use Rattle.std.proofs.Math.Seq.{take-append_seam, drop-append_seam}
use Rattle.tm_base.specs.declared.cell.Cell.{Cell}
use Rattle.tm_base.specs.declared.cell.Cell.TheVariants.{Byte, Uninit, Ptr}
use Rattle.tm_base.specs.declared.definition.Kind.TheVariants.{Struct, Union, Enum}
use Rattle.tm_base.specs.declared.ground.Primitive.{Primitive}
use Rattle.tm_base.specs.declared.ground.Primitive.TheVariants as primitive
use Rattle.tm_base.specs.declared.ground.Wrapper.{Wrapper}
use Rattle.tm_base.specs.declared.ground.Wrapper.TheVariants as wrapper
use Rattle.tm_base.specs.declared.profile.Profile.{Profile}
use Rattle.tm_base.specs.declared.profile.Profile.TheVariants as profiles
use Rattle.tm_base.specs.Cells.{Word, IsByte, IsFree, Times, pointer_of}
use Rattle.tm_base.specs.Expanded.{Expanded, Fields, Variants, too_deep, prim, never, unit, tuple, array, nonzero, phantom, wrap, ref, named, no_fields, field, no_variants, variant}
use Rattle.tm_base.specs.Layout.{layout_of, size_of, prim_size, place_at, tag_layout}
use Rattle.tm_base.specs.Orders.{word_less}
use Rattle.tm_base.specs.Profiles.{pointer_size, number_of}
use Rattle.tm_base.specs.Transmutes.{holds}
use Rattle.tm_base.specs.Valid.{Valid, StructValid, UnionValid, FieldsValid, SomeFieldValid, SomeVariantValid, PrimValid, WrapValid, IsTag, IsScalar, AreBytes, all_public, twos_complement}
use Rattle.tm_base.specs.ValidTest.{is_byte, is_free, are_bytes, word_same, is_scalar, prim_test, times_test, wrap_test, first_ref, tag_test, field_test, variant_test, valid_test, struct_test, union_test, fields_test, some_field_test, some_variant_test}
use Rattle.tm_base.proofs.OrderLemmas.{word_less-total, word_less-asym}
use Rattle.tm_base.proofs.ValidLemmas.{Valid-length}

pub is_byte-decides : (c : Cell) → Decides (is_byte c) (IsByte c)
is_byte-decides (Byte b) = Decides-ltb b 256
is_byte-decides Uninit = (λ h. cc, λ h. elim h [ ])
is_byte-decides (Ptr r k) = (λ h. cc, λ h. elim h [ ])

pub is_free-decides : (c : Cell) → Decides (is_free c) (IsFree c)
is_free-decides (Byte b) = Decides-ltb b 256
is_free-decides Uninit = (λ h. tt, λ h. refl)
is_free-decides (Ptr r k) = (λ h. cc, λ h. elim h [ ])

-- a test of each cell
all-decides : (test : Cell → Bool) (P : Cell → Type 0) → ((c : Cell) → Decides (test c) (P c)) → (w : Word) → Decides (list_all test w) (All P w)
all-decides test P each [] = (λ h. All-nil P, λ h. refl)
all-decides test P each (c ∷ cs) =
    let both = Decides-and (test c) (list_all test cs) (each c) (all-decides test P each cs) in
    (λ h. All-cons P c cs (both.0 h).0 (both.0 h).1, λ h. both.1 (All-head P c cs h, All-tail P c cs h))

are_bytes-decides : (n : ℕ) (w : Word) → Decides (are_bytes n w) (AreBytes n w)
are_bytes-decides n w = Decides-and (length w == n) (list_all is_byte w) (Decides-eqb (length w) n) (all-decides is_byte IsByte is_byte-decides w)

pub word_less-irrefl : (w : Word) → word_less w w ≡ false
word_less-irrefl w = irrefl (word_less w w) (word_less-asym w w) where
  irrefl : (b : Bool) → (b ≡ true → b ≡ false) → b ≡ false
  irrefl true f = f refl
  irrefl false f = refl

not_true : (b : Bool) → not b ≡ true → b ≡ false
not_true true h = cc
not_true false h = refl

word_same-refl : (w : Word) → word_same w w ≡ true
word_same-refl w = rw (word_less-irrefl w) refl

word_same-decides : (v w : Word) → Decides (word_same v w) (v ≡ w)
word_same-decides v w =
    let orders = Decides-and (not (word_less v w)) (not (word_less w v)) (λ h. h, λ h. h) (λ h. h, λ h. h) in (
      λ h. word_less-total v w (not_true _ (orders.0 h).0) (not_true _ (orders.0 h).1),
      λ e. subst (λ (u : Word). word_same v u ≡ true) e (word_same-refl v),
    )

nat_le-decides : (a b : ℕ) → Decides (nat_le a b) (a ≤ b)
nat_le-decides a b = (λ h. grind (arith, nat_tests), λ h. grind (arith, nat_tests))

is_scalar-decides : (n : ℕ) → Decides (is_scalar n) (IsScalar n)
is_scalar-decides n =
    Decides-or (nat_le n 0xD7FF) (nat_le 0xE000 n && nat_le n 0x10FFFF) (nat_le-decides n 0xD7FF)
    (Decides-and (nat_le 0xE000 n) (nat_le n 0x10FFFF) (nat_le-decides 0xE000 n) (nat_le-decides n 0x10FFFF))

prim_test-decides : (profile : Profile) (p : Primitive) (w : Word) → Decides (prim_test profile p w) (PrimValid profile p w)
prim_test-decides profile primitive.Bool w = Decides-and (are_bytes 1 w) (nat_le (number_of profile w) 1) (are_bytes-decides 1 w) (nat_le-decides (number_of profile w) 1)
prim_test-decides profile primitive.Char w = Decides-and (are_bytes 4 w) (is_scalar (number_of profile w)) (are_bytes-decides 4 w) (is_scalar-decides (number_of profile w))
prim_test-decides profile p w = are_bytes-decides (prim_size profile p) w

-- a word that is cut behind n cells
cut_front : (n : ℕ) (u v : Word) → length u ≡ n → take n (u ++ v) ≡ u
cut_front n u v e = subst (λ (k : ℕ). take k (u ++ v) ≡ u) e (take-append_seam u v)

cut_back : (n : ℕ) (u v : Word) → length u ≡ n → drop n (u ++ v) ≡ v
cut_back n u v e = subst (λ (k : ℕ). drop k (u ++ v) ≡ v) e (drop-append_seam u v)

times_test-decides : (n s : ℕ) (test : Word → Bool) (P : Word → Type 0) → ((u : Word) → P u → length u ≡ s) → ((u : Word) → Decides (test u) (P u)) → (w : Word) → Decides (times_test n s test w) (Times n P w)
times_test-decides zero s test P size each w = word_same-decides w []
times_test-decides (suc n) s test P size each w =
    let both = Decides-and (test (take s w)) (times_test n s test (drop s w)) (each (take s w)) (times_test-decides n s test P size each (drop s w)) in (
      λ h. (take s w, drop s w, sym (take-append-drop s w), (both.0 h).0, (both.0 h).1),
      λ (u, v, e, first, others).
          let front : take s w ≡ u = rw e (cut_front s u v (size u first)) in
          let back : drop s w ≡ v = rw e (cut_back s u v (size u first)) in
          both.1 (subst P (sym front) first, subst (Times n P) (sym back) others),
    )

wrap_test-decides : (k : Wrapper) (n : ℕ) (test : Word → Bool) (P : Word → Type 0) → ((u : Word) → Decides (test u) (P u)) → (w : Word) → Decides (wrap_test k n test w) (WrapValid k n P w)
wrap_test-decides wrapper.Option n test P each w = Decides-or (word_same w (replicate n (Byte 0))) (test w) (word_same-decides w (replicate n (Byte 0))) (each w)
wrap_test-decides wrapper.MaybeUninit n test P each w =
    Decides-or ((length w == n) && list_all is_free w) (test w)
    (Decides-and (length w == n) (list_all is_free w) (Decides-eqb (length w) n) (all-decides is_free IsFree is_free-decides w)) (each w)
wrap_test-decides _ n test P each w = each w

-- what `field_test` tests
abbrev FieldCut : (Word → Type 0) → (Word → Type 0) → ℕ → ℕ → Word → Type 0
FieldCut P Q at place w =
    (gap : Word) × (here : Word) × (others : Word) × (w ≡ gap ++ (here ++ others))
    × (at + length gap ≡ place) × All IsFree gap × P here × Q others

module _ (test rest : Word → Bool) (P Q : Word → Type 0) (each : (u : Word) → Decides (test u) (P u)) (behind : (u : Word) → Decides (rest u) (Q u)) where
  field_test-parts : (at place n : ℕ) (w : Word) → Decides (field_test test rest at place n w)
      ((((at + length (take (place - at) w) ≡ place) × All IsFree (take (place - at) w))
      × P (take n (drop (place - at) w))) × Q (drop n (drop (place - at) w)))
  field_test-parts at place n w =
      let gap = take (place - at) w in
      let left = drop (place - at) w in
      let a = at + length gap == place in
      let b = list_all is_free gap in
      let c = test (take n left) in
      Decides-and ((a && b) && c) (rest (drop n left))
      (Decides-and (a && b) c
      (Decides-and a b (Decides-eqb (at + length gap) place) (all-decides is_free IsFree is_free-decides gap)) (each (take n left))) (behind (drop n left))

  field_test-decides : (at place n : ℕ) → ((u : Word) → P u → length u ≡ n) → (w : Word) → Decides (field_test test rest at place n w) (FieldCut P Q at place w)
  field_test-decides at place n size w =
      let parts = field_test-parts at place n w in (
        λ h. (
          take (place - at) w,
          take n (drop (place - at) w),
          drop n (drop (place - at) w),
          sym (rw (take-append-drop n (drop (place - at) w)) (take-append-drop (place - at) w)),
          (parts.0 h).0.0.0,
          (parts.0 h).0.0.1,
          (parts.0 h).0.1,
          (parts.0 h).1,
        ),
        λ (gap, here, others, e, stands, free, valid, q).
            let wide : length gap ≡ place - at = omega arith in
            let front : take (place - at) w ≡ gap = rw e (cut_front (place - at) gap (here ++ others) wide) in
            let left : drop (place - at) w ≡ here ++ others = rw e (cut_back (place - at) gap (here ++ others) wide) in
            let middle : take n (drop (place - at) w) ≡ here = rw left (cut_front n here others (size here valid)) in
            let back : drop n (drop (place - at) w) ≡ others = rw left (cut_back n here others (size here valid)) in
            parts.1 (
              (
                (subst (λ (u : Word). at + length u ≡ place) (sym front) stands, subst (All IsFree) (sym front) free),
                subst P (sym middle) valid,
              ),
              subst Q (sym back) q,
            ),
      )

  -- a word of one kind in front, and one of the other behind it
  cut_decides : (n : ℕ) → ((u : Word) → P u → length u ≡ n) → (w : Word)
      → Decides (test (take n w) && rest (drop n w)) ((here : Word) × (others : Word) × (w ≡ here ++ others) × P here × Q others)
  cut_decides n size w =
      let both = Decides-and (test (take n w)) (rest (drop n w)) (each (take n w)) (behind (drop n w)) in (
        λ h. (take n w, drop n w, sym (take-append-drop n w), (both.0 h).0, (both.0 h).1),
        λ (here, others, e, valid, q).
            let front : take n w ≡ here = rw e (cut_front n here others (size here valid)) in
            let back : drop n w ≡ others = rw e (cut_back n here others (size here valid)) in
            both.1 (subst P (sym front) valid, subst Q (sym back) q),
      )

-- what `variant_test` tests
abbrev VariantCut : (Word → Type 0) → (Word → Type 0) → ℕ → Word → Type 0
VariantCut P Q begin w =
    (front : Word) × (gap : Word) × (others : Word) × (w ≡ front ++ (gap ++ others))
    × P front × (length front + length gap ≡ begin) × All IsFree gap × Q others

module _ (test rest : Word → Bool) (P Q : Word → Type 0) (each : (u : Word) → Decides (test u) (P u)) (behind : (u : Word) → Decides (rest u) (Q u)) where
  variant_test-parts : (n begin : ℕ) (w : Word) → Decides (variant_test test rest n begin w)
      (((P (take n w) × (length (take n w) + length (take (begin - n) (drop n w)) ≡ begin))
      × All IsFree (take (begin - n) (drop n w))) × Q (drop (begin - n) (drop n w)))
  variant_test-parts n begin w =
      let gap = take (begin - n) (drop n w) in
      let a = test (take n w) in
      let b = length (take n w) + length gap == begin in
      let c = list_all is_free gap in
      Decides-and ((a && b) && c) (rest (drop (begin - n) (drop n w)))
      (Decides-and (a && b) c
      (Decides-and a b (each (take n w)) (Decides-eqb (length (take n w) + length gap) begin)) (all-decides is_free IsFree is_free-decides gap))
      (behind (drop (begin - n) (drop n w)))

  variant_test-decides : (n begin : ℕ) → ((u : Word) → P u → length u ≡ n) → (w : Word) → Decides (variant_test test rest n begin w) (VariantCut P Q begin w)
  variant_test-decides n begin size w =
      let parts = variant_test-parts n begin w in (
        λ h. (
          take n w,
          take (begin - n) (drop n w),
          drop (begin - n) (drop n w),
          sym (rw (take-append-drop (begin - n) (drop n w)) (take-append-drop n w)),
          (parts.0 h).0.0.0,
          (parts.0 h).0.0.1,
          (parts.0 h).0.1,
          (parts.0 h).1,
        ),
        λ (front, gap, others, e, tag, stands, free, q).
            let size_front : length front ≡ n = size front tag in
            let wide : length gap ≡ begin - n = omega arith in
            let first : take n w ≡ front = rw e (cut_front n front (gap ++ others) size_front) in
            let left : drop n w ≡ gap ++ others = rw e (cut_back n front (gap ++ others) size_front) in
            let middle : take (begin - n) (drop n w) ≡ gap = rw left (cut_front (begin - n) gap others wide) in
            let back : drop (begin - n) (drop n w) ≡ others = rw left (cut_back (begin - n) gap others wide) in
            parts.1 (
              (
                (
                  subst P (sym first) tag,
                  subst (λ (u : Word). length u + length (take (begin - n) (drop n w)) ≡ begin) (sym first) (subst (λ (u : Word). length front + length u ≡ begin) (sym middle) stands),
                ),
                subst (All IsFree) (sym middle) free,
              ),
              subst Q (sym back) q,
            ),
      )

tag_test-decides : (profile : Profile) (n : ℕ) (value : ℤ) (w : Word) → Decides (tag_test profile n value w) (IsTag profile n value w)
tag_test-decides profile n value w = Decides-and (are_bytes n w) (number_of profile w == twos_complement n value) (are_bytes-decides n w) (Decides-eqb (number_of profile w) (twos_complement n value))

first_ref-pointer : (profile : Profile) (x : ℕ) → first_ref (pointer_of (pointer_size profile) x) ≡ x
first_ref-pointer profiles.Le64 x = refl
first_ref-pointer profiles.Be64 x = refl
first_ref-pointer profiles.Le32 x = refl

-- the reference that stands first decides which one it is
ref_decides : (profile : Profile) (A : ℕ → ℕ → Bool) (t : ℕ) (w : Word) → Decides (A (first_ref w) t && word_same w (pointer_of (pointer_size profile) (first_ref w))) ((x : ℕ) × IsTrue (A x t) × (w ≡ pointer_of (pointer_size profile) x))
ref_decides profile A t w =
    let size = pointer_size profile in
    let both = Decides-and (A (first_ref w) t) (word_same w (pointer_of size (first_ref w))) (λ h. h, λ h. h) (word_same-decides w (pointer_of size (first_ref w))) in (
      λ h. (first_ref w, (both.0 h).0, (both.0 h).1),
      λ (x, a, e).
          let same : first_ref w ≡ x = rw e (first_ref-pointer profile x) in
          both.1 (rw same a, rw same e),
    )

module _ (A : ℕ → ℕ → Bool) (keep : Bool) where
  mutual
    unfolding Valid valid_test

    pub valid_test-decides : (t : Expanded) (w : Word) → Decides (valid_test A keep t w) (Valid (holds A) keep t w)
    valid_test-decides too_deep w = (λ h. cc, λ h. elim h [ ])
    valid_test-decides (prim profile p) w = prim_test-decides profile p w
    valid_test-decides never w = (λ h. cc, λ h. elim h [ ])
    valid_test-decides unit w = word_same-decides w []
    valid_test-decides (tuple members) w = (λ h. cc, λ h. elim h [ ])
    valid_test-decides (array t n) w = times_test-decides n (size_of t) (valid_test A keep t) (Valid (holds A) keep t) (λ u. Valid-length (holds A) keep t u) (λ u. valid_test-decides t u) w
    valid_test-decides (nonzero profile p) w = Decides-and (are_bytes (prim_size profile p) w) (nat_lt 0 (number_of profile w)) (are_bytes-decides (prim_size profile p) w) (Decides-ltb 0 (number_of profile w))
    valid_test-decides phantom w = word_same-decides w []
    valid_test-decides (wrap k t) w = wrap_test-decides k (size_of t) (valid_test A keep t) (Valid (holds A) keep t) (λ u. valid_test-decides t u) w
    valid_test-decides (ref profile t) w = ref_decides profile A t.0 w
    valid_test-decides (named profile id Struct repr vs) w =
        Decides-and (length w == size_of (named profile id Struct repr vs)) (struct_test A keep repr.packed vs w)
        (Decides-eqb (length w) (size_of (named profile id Struct repr vs))) (struct_test-decides repr.packed vs w)
    valid_test-decides (named profile id Union repr vs) w =
        Decides-and (length w == size_of (named profile id Union repr vs)) (union_test A keep vs w)
        (Decides-eqb (length w) (size_of (named profile id Union repr vs))) (union_test-decides vs w)
    valid_test-decides (named profile id Enum repr vs) w =
        Decides-and (length w == size_of (named profile id Enum repr vs)) (some_variant_test A keep profile repr.tag _ _ vs w)
        (Decides-eqb (length w) (size_of (named profile id Enum repr vs))) (some_variant_test-decides profile repr.tag _ _ vs w)

    struct_test-decides : (packed : Option ℕ) (vs : Variants) (w : Word) → Decides (struct_test A keep packed vs w) (StructValid (holds A) keep packed vs w)
    struct_test-decides packed no_variants w = (λ h. cc, λ h. elim h [ ])
    struct_test-decides packed (variant value members others) w =
        Decides-and (keep || all_public members) (fields_test A keep packed 0 members w) (λ h. h, λ h. h) (fields_test-decides packed 0 members w)

    union_test-decides : (vs : Variants) (w : Word) → Decides (union_test A keep vs w) (UnionValid (holds A) keep vs w)
    union_test-decides no_variants w = (λ h. cc, λ h. elim h [ ])
    union_test-decides (variant value members others) w =
        Decides-and (keep || all_public members) (some_field_test A keep members w) (λ h. h, λ h. h) (some_field_test-decides members w)

    fields_test-decides : (packed : Option ℕ) (at : ℕ) (members : Fields) (w : Word) → Decides (fields_test A keep packed at members w) (FieldsValid (holds A) keep packed at members w)
    fields_test-decides packed at no_fields w = all-decides is_free IsFree is_free-decides w
    fields_test-decides packed at (field public t rest) w =
        let place = place_at packed at (layout_of t) in
        field_test-decides (valid_test A keep t) (fields_test A keep packed (place + size_of t) rest)
        (Valid (holds A) keep t) (FieldsValid (holds A) keep packed (place + size_of t) rest)
        (λ u. valid_test-decides t u) (λ u. fields_test-decides packed (place + size_of t) rest u)
        at place (size_of t) (λ u. Valid-length (holds A) keep t u) w

    some_field_test-decides : (members : Fields) (w : Word) → Decides (some_field_test A keep members w) (SomeFieldValid (holds A) keep members w)
    some_field_test-decides no_fields w = (λ h. cc, λ h. elim h [ ])
    some_field_test-decides (field public t rest) w =
        Decides-or (valid_test A keep t (take (size_of t) w) && list_all is_free (drop (size_of t) w)) (some_field_test A keep rest w)
        (cut_decides (valid_test A keep t) (list_all is_free) (Valid (holds A) keep t) (All IsFree)
        (λ u. valid_test-decides t u) (λ u. all-decides is_free IsFree is_free-decides u)
        (size_of t) (λ u. Valid-length (holds A) keep t u) w)
        (some_field_test-decides rest w)

    some_variant_test-decides : (profile : Profile) (tag : Option Primitive) (begin first : ℕ) (vs : Variants) (w : Word) → Decides (some_variant_test A keep profile tag begin first vs w) (SomeVariantValid (holds A) keep profile tag begin first vs w)
    some_variant_test-decides profile tag begin first no_variants w = (λ h. cc, λ h. elim h [ ])
    some_variant_test-decides profile tag begin first (variant value members rest) w =
        Decides-or (variant_test (tag_test profile (tag_layout profile tag).size value) (fields_test A keep None first members) (tag_layout profile tag).size begin w) (some_variant_test A keep profile tag begin first rest w)
        (variant_test-decides (tag_test profile (tag_layout profile tag).size value) (fields_test A keep None first members)
        (IsTag profile (tag_layout profile tag).size value) (FieldsValid (holds A) keep None first members)
        (λ u. tag_test-decides profile (tag_layout profile tag).size value u) (λ u. fields_test-decides None first members u)
        (tag_layout profile tag).size begin (λ u h. h.0.0) w)
        (some_variant_test-decides profile tag begin first rest w)

  -- the test of validity is exact
  pub valid_test-exact : (t : Expanded) (w : Word) → IsTrue (valid_test A keep t w) ↔ Valid (holds A) keep t w
  valid_test-exact t w = (λ h. (valid_test-decides t w).0 h, λ h. (valid_test-decides t w).1 h)
