-- Primitives, `NonZero`, tags, references and wrappers: cells that begin one, and cells behind them that make it whole.
use Rattle.std.proofs.Common.{◌≡◌, ℕ, zero, suc, ◌+◌, ◌-◌, ◌^◌, ◌<◌, ◌≤◌, nat_le, nat_lt, ◌==◌, ◌⊎◌, inl, inr, ⊎_elim, sym, ◌∙◌, ap, subst, true, ◌&&◌, ◌||◌, ℤ, [], ◌∷◌, ◌++◌, length, replicate, arith, append-nil, append_assoc}
use Rattle.std.specs.List.{All, list_all}
use Rattle.std.proofs.lemmas.Bool.{lt-ltb, ltb-true, le-leb, leb-true, eqb-true, eq-eqb}
use Rattle.std.proofs.lemmas.List.{length-append, length-replicate, nil_from_length, reverse-append}
use Rattle.std.proofs.lemmas.List.Elements.{All-append, All-replicate, All-cons, All-nil, All-tail}
use Rattle.tm_base.specs.declared.cell.Cell.{Cell}
use Rattle.tm_base.specs.declared.cell.Cell.TheVariants.{Byte, Uninit}
use Rattle.tm_base.specs.declared.profile.Profile.{Profile}
use Rattle.tm_base.specs.declared.profile.Profile.TheVariants.{Le64, Be64, Le32}
use Rattle.tm_base.specs.Cells.{Word, IsByte, IsFree, little_endian}
use Rattle.tm_base.specs.Profiles.{number_of}
use Rattle.tm_base.specs.Valid.{AreBytes, AreFree, IsTag, twos_complement}
use Rattle.tm_base.specs.ValidTest.{is_byte, is_free}
use Rattle.tm_check.specs.Numbers.{first_bytes, may_be_bytes, may_be_free, nonzero_begins, tag_begins}
use Rattle.tm_check.proofs.CutLemmas.{All-front, and-true, both, bytes-decide, either, filled-free, filled-long, free-decide, or-first, or-second}
use Rattle.tm_check.proofs.NumberLemmas.{completes, first-of, number_of-small}

-- ---- bytes

pub All-back : (P : Cell → Type 0) (u v : Word) → All P (u ++ v) → All P v
All-back P [] v all = all
All-back P (c ∷ u) v all = All-back P u v (All-tail P c (u ++ v) all)

pub below_or_not : (i n : ℕ) → (i < n) ⊎ (n ≤ i)
below_or_not i zero = inr (omega arith)
below_or_not zero (suc n) = inl (omega arith)
below_or_not (suc i) (suc n) = ⊎_elim (λ h. inl (omega (arith, h))) (λ h. inr (omega (arith, h))) (below_or_not i n)

-- bytes, no more than so many, by the test
pub told-bytes : (n : ℕ) (w : Word) → may_be_bytes n w ≡ true → (length w ≤ n) × All IsByte w
told-bytes n w h = let (few, bytes) = both (nat_le (length w) n) (list_all is_byte w) h in (leb-true (length w) n few, (bytes-decide w).0 bytes)

pub bytes-told : (n : ℕ) (w rest : Word) → AreBytes n (w ++ rest) → may_be_bytes n w ≡ true
bytes-told n w rest (long, all) =
    let total = length-append w rest in
    and-true (nat_le (length w) n) (list_all is_byte w) (le-leb (length w) n (omega arith)) ((bytes-decide w).1 (All-front IsByte w rest all))

pub bytes-sound : (n : ℕ) (w : Word) → may_be_bytes n w ≡ true → (rest : Word) × AreBytes n (w ++ rest)
bytes-sound n w h =
    let (few, all) = told-bytes n w h in
    let k = n - length w in (
      replicate k (Byte 0),
      (
        length-append w (replicate k (Byte 0)) ∙ ap (λ (j : ℕ). length w + j) (length-replicate k (Byte 0)) ∙ omega arith,
        All-append IsByte w (replicate k (Byte 0)) all (All-replicate IsByte k (Byte 0) (omega arith)),
      ),
    )

-- ---- free bytes

pub free-sound : (n : ℕ) (w : Word) → list_all is_free w ≡ true → length w ≤ n → (rest : Word) × (length (w ++ rest) ≡ n) × All IsFree (w ++ rest)
free-sound n w free short = (replicate (n - length w) Uninit, filled-long n w short, filled-free n w free)

pub free-told : (n : ℕ) (w rest : Word) → AreFree n (w ++ rest) → may_be_free n w ≡ true
free-told n w rest (long, all) =
    let total = length-append w rest in
    and-true (nat_le (length w) n) (list_all is_free w) (le-leb (length w) n (omega arith)) ((free-decide w).1 (All-front IsFree w rest all))

-- ---- `NonZero`

some-right : (u v : Word) → 0 < little_endian v → 0 < little_endian (u ++ v)
some-right [] v h = h
some-right (c ∷ u) v h = let k = some-right u v h in omega arith

-- bytes that end in 01 hold no 0
some-last : (profile : Profile) (w : Word) → 0 < number_of profile (w ++ Byte 1 ∷ [])
some-last Le64 w = some-right w (Byte 1 ∷ []) (omega arith)
some-last Le32 w = some-right w (Byte 1 ∷ []) (omega arith)
some-last Be64 w = subst (λ u. 0 < little_endian u) (sym (reverse-append w (Byte 1 ∷ []))) (omega arith)

abbrev IsNonzero : Profile → ℕ → Word → Type 0
IsNonzero profile n w = AreBytes n w × (0 < number_of profile w)

-- fewer bytes go on with 00 and a last 01
nonzero-short : (profile : Profile) (n : ℕ) (w : Word) → All IsByte w → length w < n → (rest : Word) × IsNonzero profile n (w ++ rest)
nonzero-short profile n w all below =
    let k = n - length w - 1 in
    let zeros = replicate k (Byte 0) in
    let last = zeros ++ Byte 1 ∷ [] in
    let same : w ++ last ≡ (w ++ zeros) ++ Byte 1 ∷ [] = sym (append_assoc w zeros (Byte 1 ∷ [])) in
    let a = length-append w last in
    let b = length-append zeros (Byte 1 ∷ []) in
    let c = length-replicate k (Byte 0) in
    let bytes : All IsByte last = All-append IsByte zeros (Byte 1 ∷ []) (All-replicate IsByte k (Byte 0) (omega arith)) (All-cons IsByte (Byte 1) [] (omega arith) (All-nil IsByte)) in (
      last,
      ((omega arith, All-append IsByte w last all bytes), subst (λ u. 0 < number_of profile u) (sym same) (some-last profile (w ++ zeros))),
    )

pub nonzero-sound : (profile : Profile) (n : ℕ) (w : Word) → nonzero_begins profile n w ≡ true → (rest : Word) × IsNonzero profile n (w ++ rest)
nonzero-sound profile n w h =
    let (bytes, some) = both (may_be_bytes n w) (nat_lt (length w) n || nat_lt 0 (number_of profile w)) h in
    let (few, all) = told-bytes n w bytes in
    ⊎_elim (λ (below : length w < n). nonzero-short profile n w all below)
    (λ (whole : n ≤ length w).
    let none = append-nil w in
    let here : 0 < number_of profile w = ⊎_elim (λ (less : nat_lt (length w) n ≡ true). let below = ltb-true (length w) n less in absurd (omega arith))
    (λ (e : nat_lt 0 (number_of profile w) ≡ true). ltb-true 0 (number_of profile w) e) (either (nat_lt (length w) n) (nat_lt 0 (number_of profile w)) some) in
    let long : length w ≡ n = omega arith in
    ([], subst (IsNonzero profile n) (sym none) ((long, all), here)))
    (below_or_not (length w) n)

pub nonzero-told : (profile : Profile) (n : ℕ) (w rest : Word) → IsNonzero profile n (w ++ rest) → nonzero_begins profile n w ≡ true
nonzero-told profile n w rest (bytes, some) =
    let total = length-append w rest in
    let long = bytes.0 in
    and-true (may_be_bytes n w) (nat_lt (length w) n || nat_lt 0 (number_of profile w)) (bytes-told n w rest bytes)
    (⊎_elim (λ (below : length w < n). or-first (nat_lt (length w) n) (nat_lt 0 (number_of profile w)) (lt-ltb (length w) n below))
    (λ (whole : n ≤ length w).
    let none : rest ≡ [] = nil_from_length rest (omega arith) in
    let same : w ++ rest ≡ w = ap (λ u. w ++ u) none ∙ append-nil w in
    or-second (nat_lt (length w) n) (nat_lt 0 (number_of profile w)) (lt-ltb 0 (number_of profile w) (subst (λ u. 0 < number_of profile u) same some)))
    (below_or_not (length w) n))

-- ---- tags

pub tag-sound : (profile : Profile) (n : ℕ) (value : ℤ) (w : Word) → tag_begins profile n value w ≡ true → (rest : Word) × IsTag profile n value (w ++ rest)
tag-sound profile n value w h =
    let number = twos_complement n value in
    let (front, same) = both (may_be_bytes n w && nat_lt number (256 ^ n)) (number_of profile w == first_bytes profile n (length w) number) h in
    let (bytes, fits) = both (may_be_bytes n w) (nat_lt number (256 ^ n)) front in
    let (few, all) = told-bytes n w bytes in
    let c = completes profile n number w few (ltb-true number (256 ^ n) fits) (eqb-true (number_of profile w) (first_bytes profile n (length w) number) same) in
    (c.rest, ((c.long, All-append IsByte w c.rest all c.are), c.value))

pub tag-told : (profile : Profile) (n : ℕ) (value : ℤ) (w rest : Word) → IsTag profile n value (w ++ rest) → tag_begins profile n value w ≡ true
tag-told profile n value w rest (bytes, is) =
    let number = twos_complement n value in
    let (long, all) = bytes in
    let small = number_of-small profile (w ++ rest) all in
    let below : number < 256 ^ n = subst (λ (k : ℕ). number < 256 ^ k) long (subst (λ (k : ℕ). k < 256 ^ length (w ++ rest)) is small) in
    and-true (may_be_bytes n w && nat_lt number (256 ^ n)) (number_of profile w == first_bytes profile n (length w) number)
    (and-true (may_be_bytes n w) (nat_lt number (256 ^ n)) (bytes-told n w rest bytes) (lt-ltb number (256 ^ n) below))
    (eq-eqb (number_of profile w) (first_bytes profile n (length w) number)
    (first-of profile n number w rest (All-front IsByte w rest all) (All-back IsByte w rest all) long is))
