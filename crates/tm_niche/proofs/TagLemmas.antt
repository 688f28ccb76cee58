-- The word of a tag's tree is the tag.
use Rattle.std.proofs.Common.{◌≡◌, ℕ, zero, suc, ◌-◌, ◌*◌, ◌/◌, ◌%◌, ◌^◌, ◌<◌, ◌≤◌, refl, sym, ap, subst, ◌∙◌, Bool, true, false, ℤ, pos, negsuc, if◌then◌else◌, IsTrue, List, [], ◌∷◌, ◌++◌, length, map, reverse, ◌↔◌, arith, lit≤}
use Rattle.std.proofs.lemmas.Bool.Decides.{nat_tests}
use Rattle.std.proofs.lemmas.List.{reverse-reverse, length-reverse}
use Rattle.tm_base.specs.declared.cell.Cell.TheVariants.{Byte}
use Rattle.tm_base.specs.declared.ground.Primitive.{Primitive}
use Rattle.tm_base.specs.declared.ground.Primitive.TheVariants as primitive
use Rattle.tm_base.specs.declared.profile.Profile.{Profile}
use Rattle.tm_base.specs.declared.profile.Profile.TheVariants.{Le64, Be64, Le32}
use Rattle.tm_base.specs.declared.tree.Tree.{Tree, Range}
use Rattle.tm_base.specs.Cells.{Word, little_endian}
use Rattle.tm_base.specs.Integers.{fits_integer, fits_signed, fits_unsigned, is_signed}
use Rattle.tm_base.specs.Layout.{prim_size}
use Rattle.tm_base.specs.Shapes.{leaves_of, all_leaves, HasNoPrivate, NonePrivate, HasNoChoice, NoneHasChoice}
use Rattle.tm_base.specs.Trees.{TreeWord, InTurn}
use Rattle.tm_base.specs.Valid.{AreBytes, IsTag, twos_complement}
use Rattle.tm_niche.specs.Forms.{in_order, some_never, turned, byte_forms, is_negative, magnitude, tag_form}
use Rattle.tm_niche.proofs.FormLemmas.{joined-all, joined-private, joined-single, one-Range, private-Range, single-Range}
use Rattle.tm_niche.proofs.NumberLemmas.{bytes_of, bytes_of-are, bytes-reverse, map-reverse, negative-number, number-same, plain-number}
use Rattle.tm_niche.proofs.WordLemmas.{exact-words, joined-words}

abbrev exact : ℕ → Tree
exact b = Range b b

forms-exact : (negative : Bool) (size n : ℕ) → byte_forms negative size n ≡ map exact (bytes_of negative size n)
forms-exact negative zero n = refl
forms-exact negative (suc size) n = ap (λ ts. Range (turned negative (n % 256)) (turned negative (n % 256)) ∷ ts) (forms-exact negative size (n / 256))

-- the bytes in the order of the profile
abbrev ordered : Profile → List ℕ → List ℕ
ordered Le64 bs = bs
ordered Be64 bs = reverse bs
ordered Le32 bs = bs

order-exact : (profile : Profile) (bs : List ℕ) → in_order profile (map exact bs) ≡ map exact (ordered profile bs)
order-exact Le64 bs = refl
order-exact Be64 bs = sym (map-reverse exact bs)
order-exact Le32 bs = refl

-- a tag's tree is its bytes, joined
tag-bytes : (profile : Profile) (size : ℕ) (value : ℤ) → in_order profile (byte_forms (is_negative value) size (magnitude value)) ≡ map exact (ordered profile (bytes_of (is_negative value) size (magnitude value)))
tag-bytes profile size value = ap (in_order profile) (forms-exact (is_negative value) size (magnitude value)) ∙ order-exact profile (bytes_of (is_negative value) size (magnitude value))

never-exact : (bs : List ℕ) → some_never (map exact bs) ≡ false
never-exact [] = refl
never-exact (b ∷ bs) = never-exact bs

leaves-exact : (pointer : ℕ) (bs : List ℕ) → all_leaves pointer (map exact bs) ≡ length bs
leaves-exact pointer [] = refl
leaves-exact pointer (b ∷ bs) = let e = leaves-exact pointer bs in let one = one-Range pointer b b in omega arith

private-exact : (bs : List ℕ) → NonePrivate (map exact bs)
private-exact [] = tt
private-exact (b ∷ bs) = (private-Range b b, private-exact bs)

single-exact : (bs : List ℕ) → NoneHasChoice (map exact bs)
single-exact [] = tt
single-exact (b ∷ bs) = (single-Range b b, single-exact bs)

length-bytes : (negative : Bool) (size n : ℕ) → length (bytes_of negative size n) ≡ size
length-bytes negative zero n = refl
length-bytes negative (suc size) n = ap (λ (k : ℕ). suc k) (length-bytes negative size (n / 256))

length-ordered : (profile : Profile) (bs : List ℕ) → length (ordered profile bs) ≡ length bs
length-ordered Le64 bs = refl
length-ordered Be64 bs = length-reverse bs
length-ordered Le32 bs = refl

pub tag-leaves : (pointer : ℕ) (profile : Profile) (size : ℕ) (value : ℤ) → leaves_of pointer (tag_form profile size value) ≡ size
unfolding tag_form
tag-leaves pointer profile size value =
    let bs : List ℕ = bytes_of (is_negative value) size (magnitude value) in
    let e = tag-bytes profile size value in
    joined-all pointer (in_order profile (byte_forms (is_negative value) size (magnitude value))) (ap some_never e ∙ never-exact (ordered profile bs))
    ∙ ap (all_leaves pointer) e ∙ leaves-exact pointer (ordered profile bs) ∙ length-ordered profile bs ∙ length-bytes (is_negative value) size (magnitude value)

pub tag-private : (profile : Profile) (size : ℕ) (value : ℤ) → HasNoPrivate (tag_form profile size value)
unfolding tag_form
tag-private profile size value =
    joined-private (in_order profile (byte_forms (is_negative value) size (magnitude value)))
    (subst NonePrivate (sym (tag-bytes profile size value)) (private-exact (ordered profile (bytes_of (is_negative value) size (magnitude value)))))

pub tag-single : (profile : Profile) (size : ℕ) (value : ℤ) → HasNoChoice (tag_form profile size value)
unfolding tag_form
tag-single profile size value =
    joined-single (in_order profile (byte_forms (is_negative value) size (magnitude value)))
    (subst NoneHasChoice (sym (tag-bytes profile size value)) (single-exact (ordered profile (bytes_of (is_negative value) size (magnitude value)))))

-- the low bytes of a number that they hold hold its two's complement
value-number : (size : ℕ) (value : ℤ) → magnitude value < 256 ^ size → little_endian (map Byte (bytes_of (is_negative value) size (magnitude value))) ≡ twos_complement size value
value-number size (pos k) h = plain-number size k h
value-number size (negsuc k) h = let e = negative-number size k h in omega arith

-- bytes that hold the number, the least first, are these
is-value : (size : ℕ) (value : ℤ) (w : Word) → magnitude value < 256 ^ size → (AreBytes size w × (little_endian w ≡ twos_complement size value)) ↔ (w ≡ map Byte (bytes_of (is_negative value) size (magnitude value)))
is-value size value w h =
    let cells : Word = map Byte (bytes_of (is_negative value) size (magnitude value)) in
    let (long, all) = bytes_of-are (is_negative value) size (magnitude value) in
    let number = value-number size value h in (
      λ ((long', all'), e). number-same w cells (long' ∙ sym long) all' all (e ∙ sym number),
      λ e. (subst (AreBytes size) (sym e) (long, all), ap little_endian e ∙ number),
    )

-- and so in the order of the profile
is-tag : (profile : Profile) (size : ℕ) (value : ℤ) (w : Word) → magnitude value < 256 ^ size
    → IsTag profile size value w ↔ (w ≡ map Byte (ordered profile (bytes_of (is_negative value) size (magnitude value))))
is-tag Le64 size value w h = is-value size value w h
is-tag Le32 size value w h = is-value size value w h
is-tag Be64 size value w h =
    let bs : List ℕ = bytes_of (is_negative value) size (magnitude value) in
    let both = is-value size value (reverse w) h in (
      λ (are, e). sym (reverse-reverse w) ∙ ap reverse (both.0 (bytes-reverse size w are, e)) ∙ sym (map-reverse Byte bs),
      λ e.
          let back : reverse w ≡ map Byte bs = ap reverse (e ∙ map-reverse Byte bs) ∙ reverse-reverse (map Byte bs) in
          let (are, number) = both.1 back in
          (subst (AreBytes size) (reverse-reverse w) (bytes-reverse size (reverse w) are), number),
    )

module _ (pointer : ℕ) (A : ℕ → ℕ → Type 0) (keep : Bool) where
  bytes-exact : (bs : List ℕ) (w : Word) → InTurn pointer A keep (map exact bs) w ↔ (w ≡ map Byte bs)
  bytes-exact [] w = (λ h. h, λ h. h)
  bytes-exact (b ∷ bs) w = (
    λ (u, v, e, p, q). e ∙ ap (λ z. z ++ v) ((exact-words pointer A keep b u).0 p) ∙ ap (λ z. Byte b ∷ z) ((bytes-exact bs v).0 q),
    λ e. (Byte b ∷ [], map Byte bs, e, (exact-words pointer A keep b (Byte b ∷ [])).1 refl, (bytes-exact bs (map Byte bs)).1 refl),
  )

  pub tag-words : (profile : Profile) (size : ℕ) (value : ℤ) (w : Word) → magnitude value < 256 ^ size → TreeWord pointer A keep (tag_form profile size value) w ↔ IsTag profile size value w
  unfolding tag_form
  tag-words profile size value w h =
      let bs : List ℕ = bytes_of (is_negative value) size (magnitude value) in
      let e = tag-bytes profile size value in
      let outer = joined-words pointer A keep (in_order profile (byte_forms (is_negative value) size (magnitude value))) w in
      let inner = bytes-exact (ordered profile bs) w in
      let tag = is-tag profile size value w h in (
        λ word. tag.1 (inner.0 (subst (λ ts. InTurn pointer A keep ts w) e (outer.0 word))),
        λ is. outer.1 (subst (λ ts. InTurn pointer A keep ts w) (sym e) (inner.1 (tag.0 is))),
      )

-- ---- a value that a type of so many bytes holds is below what they hold

fits-below : (size : ℕ) → 2 ^ (8 * size - 1) ≤ 256 ^ size → (signed : Bool) (value : ℤ) → (if signed then fits_signed size value else fits_unsigned size value) ≡ true → magnitude value < 256 ^ size
fits-below size enough true (pos k) h = let below : k < 2 ^ (8 * size - 1) = grind (arith, nat_tests) in omega arith
fits-below size enough true (negsuc k) h = let below : k < 2 ^ (8 * size - 1) = grind (arith, nat_tests) in omega arith
fits-below size enough false (pos k) h = grind (arith, nat_tests)
fits-below size enough false (negsuc k) h = cc

fits-word : (profile : Profile) (p : Primitive) → 2 ^ (8 * prim_size profile p - 1) ≤ 256 ^ prim_size profile p
fits-word profile primitive.Bool = lit≤ tt
fits-word profile primitive.Char = lit≤ tt
fits-word profile primitive.U8 = lit≤ tt
fits-word profile primitive.U16 = lit≤ tt
fits-word profile primitive.U32 = lit≤ tt
fits-word profile primitive.U64 = lit≤ tt
fits-word profile primitive.U128 = lit≤ tt
fits-word Le64 primitive.Usize = lit≤ tt
fits-word Be64 primitive.Usize = lit≤ tt
fits-word Le32 primitive.Usize = lit≤ tt
fits-word profile primitive.I8 = lit≤ tt
fits-word profile primitive.I16 = lit≤ tt
fits-word profile primitive.I32 = lit≤ tt
fits-word profile primitive.I64 = lit≤ tt
fits-word profile primitive.I128 = lit≤ tt
fits-word Le64 primitive.Isize = lit≤ tt
fits-word Be64 primitive.Isize = lit≤ tt
fits-word Le32 primitive.Isize = lit≤ tt
fits-word profile primitive.F32 = lit≤ tt
fits-word profile primitive.F64 = lit≤ tt

pub fits-small : (profile : Profile) (p : Primitive) (value : ℤ) → IsTrue (fits_integer profile p value) → magnitude value < 256 ^ prim_size profile p
fits-small profile p value h = fits-below (prim_size profile p) (fits-word profile p) (is_signed p) value h
