-- `bool`, `char` and the other primitives.
use Rattle.std.proofs.Common.{◌≡◌, ℕ, zero, suc, ◌+◌, ◌*◌, ◌/◌, ◌%◌, ◌^◌, ◌<◌, ◌≤◌, nat_le, inl, inr, ⊎_elim, refl, sym, ◌∙◌, ap, subst, true, ◌&&◌, [], ◌∷◌, ◌++◌, length, arith, append-nil}
use Rattle.std.specs.Bool.{Decides}
use Rattle.std.proofs.lemmas.Bool.{le-leb, leb-true}
use Rattle.std.proofs.lemmas.Bool.Decides.{Decides-and, Decides-or, nat_tests}
use Rattle.std.proofs.lemmas.List.{length-append, nil_from_length}
use Rattle.std.proofs.lemmas.List.Elements.{All-append, All-cons, All-nil}
use Rattle.tm_base.specs.declared.cell.Cell.TheVariants.{Byte}
use Rattle.tm_base.specs.declared.ground.Primitive.{Primitive}
use Rattle.tm_base.specs.declared.ground.Primitive.TheVariants as primitive
use Rattle.tm_base.specs.declared.profile.Profile.{Profile}
use Rattle.tm_base.specs.declared.profile.Profile.TheVariants.{Le64, Be64, Le32}
use Rattle.tm_base.specs.Cells.{Word, IsByte}
use Rattle.tm_base.specs.Layout.{prim_size}
use Rattle.tm_base.specs.Profiles.{number_of}
use Rattle.tm_base.specs.Valid.{AreBytes, IsScalar, PrimValid}
use Rattle.tm_base.specs.ValidTest.{is_scalar}
use Rattle.tm_check.specs.Numbers.{begins_scalar, first_bytes, may_be_bytes, prim_begins}
use Rattle.tm_check.proofs.CutLemmas.{All-front, and-true, both}
use Rattle.tm_check.proofs.LeafLemmas.{All-back, below_or_not, bytes-sound, bytes-told, told-bytes}
use Rattle.tm_check.proofs.NumberLemmas.{completes, first-of, number_of-small}

nat_le-decides : (a b : ℕ) → Decides (nat_le a b) (a ≤ b)
nat_le-decides a b = (λ h. grind (arith, nat_tests), λ h. grind (arith, nat_tests))

scalar-decides : (n : ℕ) → Decides (is_scalar n) (IsScalar n)
scalar-decides n =
    Decides-or (nat_le n 0xD7FF) (nat_le 0xE000 n && nat_le n 0x10FFFF) (nat_le-decides n 0xD7FF)
    (Decides-and (nat_le 0xE000 n) (nat_le n 0x10FFFF) (nat_le-decides 0xE000 n) (nat_le-decides n 0x10FFFF))

-- how many bytes there are, where there are at most four
at-most-four : (P : ℕ → Type 0) → P 0 → P 1 → P 2 → P 3 → P 4 → (k : ℕ) → k ≤ 4 → P k
at-most-four P a b c d e zero h = a
at-most-four P a b c d e (suc zero) h = b
at-most-four P a b c d e (suc (suc zero)) h = c
at-most-four P a b c d e (suc (suc (suc zero))) h = d
at-most-four P a b c d e (suc (suc (suc (suc zero)))) h = e
at-most-four P a b c d e (suc (suc (suc (suc (suc k))))) h = absurd (omega arith)

-- a scalar value that so many bytes which hold a number begin
record Scalar (profile : Profile) (k number : ℕ) : Type 0 where
  value : ℕ
  scalar : IsScalar value
  small : value < 256 ^ 4
  front : number ≡ first_bytes profile 4 k value

abbrev HasScalar : Profile → ℕ → Type 0
HasScalar profile k = (number : ℕ) → number < 256 ^ k → begins_scalar profile k number ≡ true → Scalar profile k number

scalar-small : (n : ℕ) → IsScalar n → n < 256 ^ 4
scalar-small n (inl h) = omega arith
scalar-small n (inr h) = omega arith

little-scalar : (k : ℕ) → k ≤ 4 → HasScalar Le64 k
little-scalar = at-most-four (HasScalar Le64)
    (λ number small h. record { value = 0; scalar = inl (omega arith); small = omega arith; front = omega arith })
    (λ number small h. record { value = number; scalar = inl (omega arith); small = omega arith; front = omega arith })
    (λ number small h. record { value = number + 65536; scalar = inr (omega arith, omega arith); small = omega arith; front = omega arith })
    (λ number small h. record { value = number; scalar = (scalar-decides number).0 h; small = scalar-small number ((scalar-decides number).0 h); front = omega arith })
    (λ number small h. record { value = number; scalar = (scalar-decides number).0 h; small = scalar-small number ((scalar-decides number).0 h); front = omega arith })

big-scalar : (k : ℕ) → k ≤ 4 → HasScalar Be64 k
big-scalar = at-most-four (HasScalar Be64)
    (λ number small h. let s = (scalar-decides (number * 256 ^ 4)).0 h in record { value = number * 256 ^ 4; scalar = s; small = scalar-small (number * 256 ^ 4) s; front = omega arith })
    (λ number small h. let s = (scalar-decides (number * 256 ^ 3)).0 h in record { value = number * 256 ^ 3; scalar = s; small = scalar-small (number * 256 ^ 3) s; front = omega arith })
    (λ number small h. let s = (scalar-decides (number * 256 ^ 2)).0 h in record { value = number * 256 ^ 2; scalar = s; small = scalar-small (number * 256 ^ 2) s; front = omega arith })
    (λ number small h. let s = (scalar-decides (number * 256 ^ 1)).0 h in record { value = number * 256 ^ 1; scalar = s; small = scalar-small (number * 256 ^ 1) s; front = omega arith })
    (λ number small h. let s = (scalar-decides (number * 256 ^ 0)).0 h in record { value = number * 256 ^ 0; scalar = s; small = scalar-small (number * 256 ^ 0) s; front = omega arith })

has-scalar : (profile : Profile) (k : ℕ) → k ≤ 4 → HasScalar profile k
has-scalar Le64 k few = little-scalar k few
has-scalar Be64 k few = big-scalar k few
has-scalar Le32 k few = λ number small h. let s = little-scalar k few number small h in record { value = s.value; scalar = s.scalar; small = s.small; front = s.front }

-- and the first bytes of a scalar value begin one
abbrev Begins : Profile → ℕ → Type 0
Begins profile k = (value : ℕ) → IsScalar value → begins_scalar profile k (first_bytes profile 4 k value) ≡ true

little-begins : (k : ℕ) → k ≤ 4 → Begins Le64 k
little-begins = at-most-four (Begins Le64) (λ value s. refl) (λ value s. refl) (λ value s. refl)
    (λ value s. (scalar-decides (value % 256 ^ 3)).1 (let small = most value s in let same : value ≡ value % 256 ^ 3 = omega arith in subst IsScalar same s))
    (λ value s. (scalar-decides (value % 256 ^ 4)).1 (let small = most value s in let same : value ≡ value % 256 ^ 4 = omega arith in subst IsScalar same s)) where
      most : (value : ℕ) → IsScalar value → value ≤ 0x10FFFF
      most value (inl h) = omega arith
      most value (inr h) = omega arith

middle : (value : ℕ) → IsScalar value → IsScalar (value / 256 ^ 2 * 256 ^ 2)
middle value (inl h) = inl (omega arith)
middle value (inr h) = ⊎_elim (λ (low : value < 65536). inl (omega arith)) (λ (high : 65536 ≤ value). inr (omega arith, omega arith)) (below_or_not value 65536)

third : (value : ℕ) → IsScalar value → IsScalar (value / 256 ^ 1 * 256 ^ 1)
third value (inl h) = inl (omega arith)
third value (inr h) = inr (omega arith, omega arith)

none-yet : (value : ℕ) → IsScalar value → (value / 256 ^ 3 ≡ 0) × (value / 256 ^ 4 ≡ 0)
none-yet value (inl h) = (omega arith, omega arith)
none-yet value (inr h) = (omega arith, omega arith)

big-begins : (k : ℕ) → k ≤ 4 → Begins Be64 k
big-begins = at-most-four (Begins Be64)
    (λ value s. (scalar-decides (value / 256 ^ 4 * 256 ^ 4)).1 (let none = (none-yet value s).1 in inl (omega arith)))
    (λ value s. (scalar-decides (value / 256 ^ 3 * 256 ^ 3)).1 (let none = (none-yet value s).0 in inl (omega arith)))
    (λ value s. (scalar-decides (value / 256 ^ 2 * 256 ^ 2)).1 (middle value s))
    (λ value s. (scalar-decides (value / 256 ^ 1 * 256 ^ 1)).1 (third value s))
    (λ value s. (scalar-decides (value / 256 ^ 0 * 256 ^ 0)).1 (let same : value ≡ value / 256 ^ 0 * 256 ^ 0 = omega arith in subst IsScalar same s))

begins : (profile : Profile) (k : ℕ) → k ≤ 4 → Begins profile k
begins Le64 k few = little-begins k few
begins Be64 k few = big-begins k few
begins Le32 k few = λ value s. little-begins k few value s

-- ---- primitives

bool-sound : (profile : Profile) (w : Word) → may_be_bytes 1 w ≡ true → number_of profile w ≤ 1 → (rest : Word) × AreBytes 1 (w ++ rest) × (number_of profile (w ++ rest) ≤ 1)
bool-sound profile [] bytes small = (Byte 0 ∷ [], (refl, All-cons IsByte (Byte 0) [] (omega arith) (All-nil IsByte)), zero-small profile) where
  zero-small : (profile : Profile) → number_of profile (Byte 0 ∷ []) ≤ 1
  zero-small Le64 = omega arith
  zero-small Be64 = omega arith
  zero-small Le32 = omega arith
bool-sound profile (c ∷ []) bytes small = ([], (refl, (told-bytes 1 (c ∷ []) bytes).1), small)
bool-sound profile (c ∷ d ∷ w) bytes small = let few = (told-bytes 1 (c ∷ d ∷ w) bytes).0 in absurd (omega arith)

bool-told : (profile : Profile) (w rest : Word) → AreBytes 1 (w ++ rest) → number_of profile (w ++ rest) ≤ 1 → number_of profile w ≤ 1
bool-told Le64 [] rest bytes small = omega arith
bool-told Be64 [] rest bytes small = omega arith
bool-told Le32 [] rest bytes small = omega arith
bool-told profile (c ∷ w) rest (long, all) small =
    let total = length-append w rest in
    let none : rest ≡ [] = nil_from_length rest (omega arith) in
    let same : (c ∷ w) ++ rest ≡ c ∷ w = ap (λ u. (c ∷ w) ++ u) none ∙ append-nil (c ∷ w) in
    subst (λ u. number_of profile u ≤ 1) same small

pub prim-sound : (profile : Profile) (p : Primitive) (w : Word) → prim_begins profile p w ≡ true → (rest : Word) × PrimValid profile p (w ++ rest)
prim-sound profile primitive.Bool w h =
    let (bytes, small) = both (may_be_bytes 1 w) (nat_le (number_of profile w) 1) h in
    let (rest, whole, least) = bool-sound profile w bytes (leb-true (number_of profile w) 1 small) in
    (rest, (whole, least))
prim-sound profile primitive.Char w h =
    let (bytes, s) = both (may_be_bytes 4 w) (begins_scalar profile (length w) (number_of profile w)) h in
    let (few, all) = told-bytes 4 w bytes in
    let scalar = has-scalar profile (length w) few (number_of profile w) (number_of-small profile w all) s in
    let c = completes profile 4 scalar.value w few scalar.small scalar.front in
    (c.rest, ((c.long, All-append IsByte w c.rest all c.are), subst IsScalar (sym c.value) scalar.scalar))
prim-sound profile p w h = bytes-sound (prim_size profile p) w h

pub prim-told : (profile : Profile) (p : Primitive) (w rest : Word) → PrimValid profile p (w ++ rest) → prim_begins profile p w ≡ true
prim-told profile primitive.Bool w rest (bytes, small) =
    and-true (may_be_bytes 1 w) (nat_le (number_of profile w) 1) (bytes-told 1 w rest bytes) (le-leb (number_of profile w) 1 (bool-told profile w rest bytes small))
prim-told profile primitive.Char w rest (bytes, scalar) =
    let total = length-append w rest in
    let (long, all) = bytes in
    let front = first-of profile 4 (number_of profile (w ++ rest)) w rest (All-front IsByte w rest all) (All-back IsByte w rest all) long refl in
    and-true (may_be_bytes 4 w) (begins_scalar profile (length w) (number_of profile w)) (bytes-told 4 w rest bytes)
    (ap (begins_scalar profile (length w)) front ∙ begins profile (length w) (omega arith) (number_of profile (w ++ rest)) scalar)
prim-told profile p w rest bytes = bytes-told (prim_size profile p) w rest bytes
