-- The words of the tree of `char` are the Unicode scalar values, in each byte order.
use Rattle.std.proofs.Common.{◌≡◌, ℕ, zero, suc, ◌+◌, ◌*◌, ◌<◌, ◌≤◌, refl, sym, ap, subst, ◌∙◌, Bool, [], ◌∷◌, ◌⊎◌, inl, inr, ◌↔◌, arith}
use Rattle.std.proofs.lemmas.List.Elements.{All-head, All-tail, All-cons, All-nil}
use Rattle.tm_base.specs.declared.cell.Cell.{Cell}
use Rattle.tm_base.specs.declared.cell.Cell.TheVariants.{Byte, Uninit, Ptr}
use Rattle.tm_base.specs.declared.ground.Primitive.TheVariants.{Char}
use Rattle.tm_base.specs.declared.profile.Profile.{Profile}
use Rattle.tm_base.specs.declared.profile.Profile.TheVariants.{Le64, Be64, Le32}
use Rattle.tm_base.specs.declared.tree.Tree.{Range}
use Rattle.tm_base.specs.Cells.{Word, IsByte}
use Rattle.tm_base.specs.Profiles.{number_of}
use Rattle.tm_base.specs.Trees.{TreeWord, InTurn}
use Rattle.tm_base.specs.Valid.{AreBytes, IsScalar, PrimValid}
use Rattle.tm_base.specs.Shapes.{leaves_of, HasNoPrivate}
use Rattle.tm_niche.proofs.FormLemmas.{joined-leaves, one_of-leaves, joined-private, one_of-private}
use Rattle.tm_niche.specs.Forms.{in_order, scalars, char_form}
use Rattle.tm_niche.proofs.WordLemmas.{joined-words, one_of-words}

module _ (pointer : ℕ) where
  scalars-leaves : (profile : Profile) (second least third most : ℕ) → leaves_of pointer (scalars profile second least third most) ≤ 4
  unfolding scalars leaves_of
  scalars-leaves Le64 second least third most = joined-leaves pointer (Range 0 255 ∷ Range second least ∷ Range third most ∷ Range 0 0 ∷ [])
  scalars-leaves Be64 second least third most = joined-leaves pointer (Range 0 0 ∷ Range third most ∷ Range second least ∷ Range 0 255 ∷ [])
  scalars-leaves Le32 second least third most = joined-leaves pointer (Range 0 255 ∷ Range second least ∷ Range third most ∷ Range 0 0 ∷ [])

  pub char-leaves : (profile : Profile) → leaves_of pointer (char_form profile) ≤ 64
  unfolding char_form
  char-leaves profile =
      let all = one_of-leaves pointer (scalars profile 0 0xD7 0 0 ∷ scalars profile 0xE0 0xFF 0 0 ∷ scalars profile 0 0xFF 1 0x10 ∷ []) in
      let first = scalars-leaves profile 0 0xD7 0 0 in
      let second = scalars-leaves profile 0xE0 0xFF 0 0 in
      let third = scalars-leaves profile 0 0xFF 1 0x10 in
      omega arith

scalars-private : (profile : Profile) (second least third most : ℕ) → HasNoPrivate (scalars profile second least third most)
unfolding scalars HasNoPrivate
scalars-private Le64 second least third most = joined-private (Range 0 255 ∷ Range second least ∷ Range third most ∷ Range 0 0 ∷ []) (tt, (tt, (tt, (tt, tt))))
scalars-private Be64 second least third most = joined-private (Range 0 0 ∷ Range third most ∷ Range second least ∷ Range 0 255 ∷ []) (tt, (tt, (tt, (tt, tt))))
scalars-private Le32 second least third most = joined-private (Range 0 255 ∷ Range second least ∷ Range third most ∷ Range 0 0 ∷ []) (tt, (tt, (tt, (tt, tt))))

pub char-private : (profile : Profile) → HasNoPrivate (char_form profile)
unfolding char_form
char-private profile =
    one_of-private (scalars profile 0 0xD7 0 0 ∷ scalars profile 0xE0 0xFF 0 0 ∷ scalars profile 0 0xFF 1 0x10 ∷ [])
    (scalars-private profile 0 0xD7 0 0, (scalars-private profile 0xE0 0xFF 0 0, (scalars-private profile 0 0xFF 1 0x10, tt)))

abbrev IsIn : ℕ → ℕ → ℕ → Type 0
IsIn low high b = (low ≤ b) × (b ≤ high)

-- four bytes in these ranges, the least of their number first
abbrev AreIn : ℕ → ℕ → ℕ → ℕ → ℕ → ℕ → ℕ → ℕ → Type 0
AreIn second least third most b0 b1 b2 b3 = IsIn 0 255 b0 × IsIn second least b1 × IsIn third most b2 × IsIn 0 0 b3

abbrev value : ℕ → ℕ → ℕ → ℕ → ℕ
value b0 b1 b2 b3 = b0 + 256 * (b1 + 256 * (b2 + 256 * (b3 + 256 * 0)))

abbrev AreSmall : ℕ → ℕ → ℕ → ℕ → Type 0
AreSmall b0 b1 b2 b3 = (b0 < 256) × (b1 < 256) × (b2 < 256) × (b3 < 256)

abbrev InSomeWay : ℕ → ℕ → ℕ → ℕ → Type 0
InSomeWay b0 b1 b2 b3 = AreIn 0 0xD7 0 0 b0 b1 b2 b3 ⊎ AreIn 0xE0 0xFF 0 0 b0 b1 b2 b3 ⊎ AreIn 0 0xFF 1 0x10 b0 b1 b2 b3

ways-scalar : (b0 b1 b2 b3 : ℕ) → InSomeWay b0 b1 b2 b3 → AreSmall b0 b1 b2 b3 × IsScalar (value b0 b1 b2 b3)
ways-scalar b0 b1 b2 b3 (inl (p, q, r, s)) = ((omega arith, omega arith, omega arith, omega arith), inl (omega arith))
ways-scalar b0 b1 b2 b3 (inr (inl (p, q, r, s))) = ((omega arith, omega arith, omega arith, omega arith), inr (omega arith, omega arith))
ways-scalar b0 b1 b2 b3 (inr (inr (p, q, r, s))) = ((omega arith, omega arith, omega arith, omega arith), inr (omega arith, omega arith))

scalar-ways : (b0 b1 b2 b3 : ℕ) → AreSmall b0 b1 b2 b3 → IsScalar (value b0 b1 b2 b3) → InSomeWay b0 b1 b2 b3
scalar-ways b0 b1 zero b3 (p, q, r, s) (inl low) =
    inl ((omega arith, omega arith), (omega arith, omega arith), (omega arith, omega arith), (omega arith, omega arith))
scalar-ways b0 b1 zero b3 (p, q, r, s) (inr (low, high)) =
    inr (inl ((omega arith, omega arith), (omega arith, omega arith), (omega arith, omega arith), (omega arith, omega arith)))
scalar-ways b0 b1 (suc b2) b3 (p, q, r, s) (inl low) = absurd (omega arith)
scalar-ways b0 b1 (suc b2) b3 (p, q, r, s) (inr (low, high)) =
    inr (inr ((omega arith, omega arith), (omega arith, omega arith), (omega arith, omega arith), (omega arith, omega arith)))

pub byte-is : (c : Cell) → IsByte c → (b : ℕ) × (b < 256) × (c ≡ Byte b)
byte-is (Byte b) h = (b, h, refl)
byte-is Uninit h = elim h [ ]
byte-is (Ptr r k) h = elim h [ ]

abbrev word_of : ℕ → ℕ → ℕ → ℕ → Word
word_of b0 b1 b2 b3 = Byte b0 ∷ Byte b1 ∷ Byte b2 ∷ Byte b3 ∷ []

same-word : (c0 c1 c2 c3 : Cell) (b0 b1 b2 b3 : ℕ) → c0 ≡ Byte b0 → c1 ≡ Byte b1 → c2 ≡ Byte b2 → c3 ≡ Byte b3 → c0 ∷ c1 ∷ c2 ∷ c3 ∷ [] ≡ word_of b0 b1 b2 b3
same-word c0 c1 c2 c3 b0 b1 b2 b3 e0 e1 e2 e3 = rw (e0, e1, e2, e3) refl

four-bytes : (w : Word) → AreBytes 4 w → (b0 : ℕ) × (b1 : ℕ) × (b2 : ℕ) × (b3 : ℕ) × AreSmall b0 b1 b2 b3 × (w ≡ word_of b0 b1 b2 b3)
four-bytes [] (n, all) = absurd (omega arith)
four-bytes (c0 ∷ []) (n, all) = absurd (omega arith)
four-bytes (c0 ∷ c1 ∷ []) (n, all) = absurd (omega arith)
four-bytes (c0 ∷ c1 ∷ c2 ∷ []) (n, all) = absurd (omega arith)
four-bytes (c0 ∷ c1 ∷ c2 ∷ c3 ∷ []) (n, all) =
    let (b0, p0, e0) = byte-is c0 (All-head IsByte c0 (c1 ∷ c2 ∷ c3 ∷ []) all) in
    let all1 = All-tail IsByte c0 (c1 ∷ c2 ∷ c3 ∷ []) all in
    let (b1, p1, e1) = byte-is c1 (All-head IsByte c1 (c2 ∷ c3 ∷ []) all1) in
    let all2 = All-tail IsByte c1 (c2 ∷ c3 ∷ []) all1 in
    let (b2, p2, e2) = byte-is c2 (All-head IsByte c2 (c3 ∷ []) all2) in
    let all3 = All-tail IsByte c2 (c3 ∷ []) all2 in
    let (b3, p3, e3) = byte-is c3 (All-head IsByte c3 [] all3) in
    (b0, b1, b2, b3, (p0, p1, p2, p3), same-word c0 c1 c2 c3 b0 b1 b2 b3 e0 e1 e2 e3)
four-bytes (c0 ∷ c1 ∷ c2 ∷ c3 ∷ c4 ∷ w) (n, all) = absurd (omega arith)

are-bytes : (b0 b1 b2 b3 : ℕ) → AreSmall b0 b1 b2 b3 → AreBytes 4 (word_of b0 b1 b2 b3)
are-bytes b0 b1 b2 b3 (p, q, r, s) =
    (refl, All-cons IsByte (Byte b0) (Byte b1 ∷ Byte b2 ∷ Byte b3 ∷ []) p (All-cons IsByte (Byte b1) (Byte b2 ∷ Byte b3 ∷ []) q (All-cons IsByte (Byte b2) (Byte b3 ∷ []) r (All-cons IsByte (Byte b3) [] s (All-nil IsByte)))))

module _ (pointer : ℕ) (A : ℕ → ℕ → Type 0) (keep : Bool) where
  -- four ranges of bytes in turn
  ranges-words : (l0 h0 l1 h1 l2 h2 l3 h3 : ℕ) (w : Word)
      → InTurn pointer A keep (Range l0 h0 ∷ Range l1 h1 ∷ Range l2 h2 ∷ Range l3 h3 ∷ []) w
      ↔ ((b0 : ℕ) × (b1 : ℕ) × (b2 : ℕ) × (b3 : ℕ) × (IsIn l0 h0 b0 × IsIn l1 h1 b1 × IsIn l2 h2 b2 × IsIn l3 h3 b3) × (w ≡ word_of b0 b1 b2 b3))
  unfolding TreeWord
  ranges-words l0 h0 l1 h1 l2 h2 l3 h3 w = (
    λ (u0, v0, e0, (b0, lo0, hi0, is0), (u1, v1, e1, (b1, lo1, hi1, is1), (u2, v2, e2, (b2, lo2, hi2, is2), (u3, v3, e3, (b3, lo3, hi3, is3), end)))).
        (b0, b1, b2, b3, ((lo0, hi0), (lo1, hi1), (lo2, hi2), (lo3, hi3)), rw (e0, is0, e1, is1, e2, is2, e3, is3, end) refl),
    λ (b0, b1, b2, b3, ((lo0, hi0), (lo1, hi1), (lo2, hi2), (lo3, hi3)), e). (
      Byte b0 ∷ [],
      Byte b1 ∷ Byte b2 ∷ Byte b3 ∷ [],
      e,
      (b0, lo0, hi0, refl),
      (
        Byte b1 ∷ [],
        Byte b2 ∷ Byte b3 ∷ [],
        refl,
        (b1, lo1, hi1, refl),
        (
          Byte b2 ∷ [],
          Byte b3 ∷ [],
          refl,
          (b2, lo2, hi2, refl),
          (Byte b3 ∷ [], [], refl, (b3, lo3, hi3, refl), refl),
        ),
      ),
    ),
  )

  -- where the bytes of a number stand as `order` says
  module _ (profile : Profile) (order : ℕ → ℕ → ℕ → ℕ → Word) where
    abbrev pub HoldsScalars : Type 0
    HoldsScalars = (second least third most : ℕ) (w : Word) → TreeWord pointer A keep (scalars profile second least third most) w
        ↔ ((b0 : ℕ) × (b1 : ℕ) × (b2 : ℕ) × (b3 : ℕ) × AreIn second least third most b0 b1 b2 b3 × (w ≡ order b0 b1 b2 b3))

    abbrev pub HasAllBytes : Type 0
    HasAllBytes = (w : Word) → AreBytes 4 w → (b0 : ℕ) × (b1 : ℕ) × (b2 : ℕ) × (b3 : ℕ) × AreSmall b0 b1 b2 b3 × (w ≡ order b0 b1 b2 b3)

    forth : (w : Word) (b0 b1 b2 b3 : ℕ) → ((b0 b1 b2 b3 : ℕ) → AreSmall b0 b1 b2 b3 → AreBytes 4 (order b0 b1 b2 b3)) → ((b0 b1 b2 b3 : ℕ) → number_of profile (order b0 b1 b2 b3) ≡ value b0 b1 b2 b3)
        → InSomeWay b0 b1 b2 b3 → w ≡ order b0 b1 b2 b3 → AreBytes 4 w × IsScalar (number_of profile w)
    forth w b0 b1 b2 b3 are number way e =
        let (small, scalar) = ways-scalar b0 b1 b2 b3 way in
        (subst (AreBytes 4) (sym e) (are b0 b1 b2 b3 small), subst IsScalar (sym (ap (number_of profile) e ∙ number b0 b1 b2 b3)) scalar)

    from_order : HoldsScalars → HasAllBytes → ((b0 b1 b2 b3 : ℕ) → AreSmall b0 b1 b2 b3 → AreBytes 4 (order b0 b1 b2 b3)) → ((b0 b1 b2 b3 : ℕ) → number_of profile (order b0 b1 b2 b3) ≡ value b0 b1 b2 b3)
        → (w : Word) → TreeWord pointer A keep (char_form profile) w ↔ (AreBytes 4 w × IsScalar (number_of profile w))
    unfolding char_form
    from_order held all are number w =
        let ways = one_of-words pointer A keep (scalars profile 0 0xD7 0 0 ∷ scalars profile 0xE0 0xFF 0 0 ∷ scalars profile 0 0xFF 1 0x10 ∷ []) w in (
          λ h. elim (ways.0 h) [
            | inl p ↦ let (b0, b1, b2, b3, r, e) = (held 0 0xD7 0 0 w).0 p in forth w b0 b1 b2 b3 are number (inl r) e
            | inr (inl p) ↦ let (b0, b1, b2, b3, r, e) = (held 0xE0 0xFF 0 0 w).0 p in forth w b0 b1 b2 b3 are number (inr (inl r)) e
            | inr (inr (inl p)) ↦ let (b0, b1, b2, b3, r, e) = (held 0 0xFF 1 0x10 w).0 p in forth w b0 b1 b2 b3 are number (inr (inr r)) e
            | inr (inr (inr p)) ↦ absurd p
          ],
          λ (bytes, scalar).
              let (b0, b1, b2, b3, small, e) = all w bytes in
              ways.1 (elim (scalar-ways b0 b1 b2 b3 small (subst IsScalar (ap (number_of profile) e ∙ number b0 b1 b2 b3) scalar)) [
                | inl r ↦ inl ((held 0 0xD7 0 0 w).1 (b0, b1, b2, b3, r, e))
                | inr (inl r) ↦ inr (inl ((held 0xE0 0xFF 0 0 w).1 (b0, b1, b2, b3, r, e)))
                | inr (inr r) ↦ inr (inr (inl ((held 0 0xFF 1 0x10 w).1 (b0, b1, b2, b3, r, e))))
              ]),
        )

  held_up : (profile : Profile) → ((second least third most : ℕ) → in_order profile (Range 0 255 ∷ Range second least ∷ Range third most ∷ Range 0 0 ∷ []) ≡ Range 0 255 ∷ Range second least ∷ Range third most ∷ Range 0 0 ∷ []) → HoldsScalars profile word_of
  unfolding scalars
  held_up profile same second least third most w =
      let outer = joined-words pointer A keep (in_order profile (Range 0 255 ∷ Range second least ∷ Range third most ∷ Range 0 0 ∷ [])) w in
      let inner = ranges-words 0 255 second least third most 0 0 w in
      let e = same second least third most in
      (λ h. inner.0 (subst (λ ts. InTurn pointer A keep ts w) e (outer.0 h)), λ h. outer.1 (subst (λ ts. InTurn pointer A keep ts w) (sym e) (inner.1 h)))

  abbrev turned_round : ℕ → ℕ → ℕ → ℕ → Word
  turned_round b0 b1 b2 b3 = word_of b3 b2 b1 b0

  held_down : HoldsScalars Be64 turned_round
  unfolding scalars
  held_down second least third most w =
      let outer = joined-words pointer A keep (in_order Be64 (Range 0 255 ∷ Range second least ∷ Range third most ∷ Range 0 0 ∷ [])) w in
      let inner = ranges-words 0 0 third most second least 0 255 w in (
        λ h. let (b3, b2, b1, b0, (s, r, q, p), e) = inner.0 (outer.0 h) in (b0, b1, b2, b3, (p, q, r, s), e),
        λ (b0, b1, b2, b3, (p, q, r, s), e). outer.1 (inner.1 (b3, b2, b1, b0, (s, r, q, p), e)),
      )

  -- the words of the tree of `char`
  pub char-words : (profile : Profile) (w : Word) → TreeWord pointer A keep (char_form profile) w ↔ PrimValid profile Char w
  char-words Le64 w = from_order Le64 word_of (held_up Le64 (λ a b c d. refl)) four-bytes are-bytes (λ b0 b1 b2 b3. refl) w
  char-words Le32 w = from_order Le32 word_of (held_up Le32 (λ a b c d. refl)) four-bytes are-bytes (λ b0 b1 b2 b3. refl) w
  char-words Be64 w =
      from_order Be64 turned_round held_down
      (λ u bytes. let (b3, b2, b1, b0, (s, r, q, p), e) = four-bytes u bytes in (b0, b1, b2, b3, (p, q, r, s), e))
      (λ b0 b1 b2 b3 (p, q, r, s). are-bytes b3 b2 b1 b0 (s, r, q, p))
      (λ b0 b1 b2 b3. refl) w
