-- Numbers of bytes, of which the first are told.
use Rattle.std.proofs.Common.{◌≡◌, ℕ, zero, suc, ◌+◌, ◌-◌, ◌*◌, ◌/◌, ◌%◌, ◌^◌, ◌<◌, ◌≤◌, refl, sym, ◌∙◌, ap, subst, Bool, true, false, if◌then◌else◌, Some, None, [], ◌∷◌, ◌++◌, length, reverse, arith}
use Rattle.std.specs.List.{All, list_all}
use Rattle.std.proofs.lemmas.Grind.{reverse_onto}
use Rattle.std.proofs.lemmas.List.{length-append, length-reverse, reverse-append, reverse-reverse}
use Rattle.std.proofs.lemmas.List.Elements.{All-append, All-head, All-tail, All-cons, All-nil}
use Rattle.std.proofs.lemmas.Nat.{pow-add, div_below, mod_below, div-add-mod', div-mul-add, mod-mul-add, mul-le}
use Rattle.std.proofs.Math.Nat.{mul_assoc, mul_comm, pow-succ'}
use Rattle.tm_base.specs.declared.cell.Cell.{Cell}
use Rattle.tm_base.specs.declared.cell.Cell.TheVariants.{Byte, Uninit, Ptr}
use Rattle.tm_base.specs.declared.profile.Profile.{Profile}
use Rattle.tm_base.specs.declared.profile.Profile.TheVariants.{Le64, Be64, Le32}
use Rattle.tm_base.specs.Cells.{Word, IsByte, byte_of, little_endian}
use Rattle.tm_base.specs.Profiles.{number_of}
use Rattle.tm_base.specs.ValidTest.{is_byte}
use Rattle.tm_check.proofs.CutLemmas.{and-true, both}
use Rattle.tm_check.specs.Numbers.{first_bytes, grown}

pub power-next : (n x : ℕ) → 256 ^ suc n * x ≡ 256 * (256 ^ n * x)
power-next n x = ap (λ (k : ℕ). k * x) (pow-succ' 256 n) ∙ mul_assoc 256 (256 ^ n) x

pub power-some : (n : ℕ) → 0 < 256 ^ n
power-some zero = omega arith
power-some (suc n) = let e = pow-succ' 256 n in let some = power-some n in omega arith

pub number-append : (u v : Word) → little_endian (u ++ v) ≡ little_endian u + 256 ^ length u * little_endian v
number-append [] v = omega arith
number-append (c ∷ u) v = let rest = number-append u v in let next = power-next (length u) (little_endian v) in omega arith

pub byte-small : (c : Cell) → IsByte c → byte_of c < 256
byte-small (Byte b) h = h
byte-small Uninit h = elim h [ ]
byte-small (Ptr r k) h = elim h [ ]

pub number-small : (w : Word) → All IsByte w → little_endian w < 256 ^ length w
number-small [] all = omega arith
number-small (c ∷ w) all =
    let here = byte-small c (All-head IsByte c w all) in
    let rest = number-small w (All-tail IsByte c w all) in
    let e = pow-succ' 256 (length w) in
    omega arith

pub All-reverse : (P : Cell → Type 0) (w : Word) → All P w → All P (reverse w)
All-reverse P [] h = h
All-reverse P (c ∷ w) h =
    subst (All P) (sym (reverse_onto w c [])) (All-append P (reverse w) (c ∷ []) (All-reverse P w (All-tail P c w h)) (All-cons P c [] (All-head P c w h) (All-nil P)))

pub number_of-small : (profile : Profile) (w : Word) → All IsByte w → number_of profile w < 256 ^ length w
number_of-small Le64 w all = number-small w all
number_of-small Be64 w all = subst (λ (k : ℕ). little_endian (reverse w) < 256 ^ k) (length-reverse w) (number-small (reverse w) (All-reverse IsByte w all))
number_of-small Le32 w all = number-small w all

-- so many bytes that hold a number
pub record Holds (n number : ℕ) : Type 0 where
  pub bytes : Word
  pub long : length bytes ≡ n
  pub are : All IsByte bytes
  pub value : little_endian bytes ≡ number

pub some-bytes : (n number : ℕ) → number < 256 ^ n → Holds n number
some-bytes zero number h = record { bytes = []; long = refl; are = All-nil IsByte; value = omega arith }
some-bytes (suc n) number h =
    let e = pow-succ' 256 n in
    let rest = some-bytes n (number / 256) (omega arith) in
    record {
      bytes = Byte (number % 256) ∷ rest.bytes;
      long = ap (λ (k : ℕ). suc k) rest.long;
      are = All-cons IsByte (Byte (number % 256)) rest.bytes (omega arith) rest.are;
      value = let v = rest.value in omega arith;
    }

-- bytes behind some that make the whole hold a number
pub record Completes (profile : Profile) (n : ℕ) (w : Word) (number : ℕ) : Type 0 where
  pub rest : Word
  pub long : length (w ++ rest) ≡ n
  pub are : All IsByte rest
  pub value : number_of profile (w ++ rest) ≡ number

cut-power : (n k : ℕ) → k ≤ n → 256 ^ (n - k) * 256 ^ k ≡ 256 ^ n
cut-power n k h = sym (pow-add 256 (n - k) k) ∙ ap (λ (j : ℕ). 256 ^ j) (omega arith)

least-first : (n number : ℕ) (w : Word) → length w ≤ n → number < 256 ^ n → little_endian w ≡ number % 256 ^ length w
    → (r : Holds (n - length w) (number / 256 ^ length w)) → little_endian (w ++ r.bytes) ≡ number
least-first n number w short small e r =
    let k = length w in
    let split = div-add-mod' number (256 ^ k) in
    let turn = mul_comm (number / 256 ^ k) (256 ^ k) in
    number-append w r.bytes ∙ ap (λ (v : ℕ). little_endian w + 256 ^ k * v) r.value ∙ omega arith

least-rest : (n number k : ℕ) → k ≤ n → number < 256 ^ n → number / 256 ^ k < 256 ^ (n - k)
least-rest n number k short small =
    div_below number (256 ^ k) (256 ^ (n - k)) (power-some k) (subst (λ (j : ℕ). number < j) (sym (cut-power n k short)) small)

little-completes : (n number : ℕ) (w : Word) → length w ≤ n → number < 256 ^ n → little_endian w ≡ number % 256 ^ length w → Completes Le64 n w number
little-completes n number w short small e =
    let r = some-bytes (n - length w) (number / 256 ^ length w) (least-rest n number (length w) short small) in
    record {
      rest = r.bytes;
      long = length-append w r.bytes ∙ ap (λ (j : ℕ). length w + j) r.long ∙ omega arith;
      are = r.are;
      value = least-first n number w short small e r;
    }

big-completes : (n number : ℕ) (w : Word) → length w ≤ n → number < 256 ^ n → little_endian (reverse w) ≡ number / 256 ^ (n - length w) → Completes Be64 n w number
big-completes n number w short small e =
    let j = n - length w in
    let r = some-bytes j (number % 256 ^ j) (mod_below number (256 ^ j) (power-some j)) in
    let turned : reverse (w ++ reverse r.bytes) ≡ r.bytes ++ reverse w = reverse-append w (reverse r.bytes) ∙ ap (λ u. u ++ reverse w) (reverse-reverse r.bytes) in
    let split = div-add-mod' number (256 ^ j) in
    let turn = mul_comm (number / 256 ^ j) (256 ^ j) in
    let power : 256 ^ length r.bytes ≡ 256 ^ j = ap (λ (k : ℕ). 256 ^ k) r.long in
    record {
      rest = reverse r.bytes;
      long = length-append w (reverse r.bytes) ∙ ap (λ (k : ℕ). length w + k) (length-reverse r.bytes ∙ r.long) ∙ omega arith;
      are = All-reverse IsByte r.bytes r.are;
      value = ap little_endian turned ∙ number-append r.bytes (reverse w)
          ∙ ap (λ (v : ℕ). v + 256 ^ length r.bytes * little_endian (reverse w)) r.value
          ∙ ap (λ (v : ℕ). number % 256 ^ j + v * little_endian (reverse w)) power
          ∙ ap (λ (v : ℕ). number % 256 ^ j + 256 ^ j * v) e ∙ omega arith;
    }

-- bytes that hold what the first bytes of a number hold are completed to that number
pub completes : (profile : Profile) (n number : ℕ) (w : Word) → length w ≤ n → number < 256 ^ n → number_of profile w ≡ first_bytes profile n (length w) number → Completes profile n w number
completes Le64 n number w short small e = little-completes n number w short small e
completes Be64 n number w short small e = big-completes n number w short small e
completes Le32 n number w short small e =
    let c = little-completes n number w short small e in
    record { rest = c.rest; long = c.long; are = c.are; value = c.value }

least-of : (number : ℕ) (w rest : Word) → All IsByte w → little_endian (w ++ rest) ≡ number → little_endian w ≡ number % 256 ^ length w
least-of number w rest all e =
    let k = length w in
    let turn = mul_comm (256 ^ k) (little_endian rest) in
    sym (ap (λ (v : ℕ). v % 256 ^ k) (sym e ∙ number-append w rest ∙ omega arith) ∙ mod-mul-add (little_endian rest) (256 ^ k) (little_endian w) (number-small w all))

-- and the first bytes of a number hold that
pub first-of : (profile : Profile) (n number : ℕ) (w rest : Word) → All IsByte w → All IsByte rest → length (w ++ rest) ≡ n → number_of profile (w ++ rest) ≡ number
    → number_of profile w ≡ first_bytes profile n (length w) number
first-of Le64 n number w rest all behind long e = least-of number w rest all e
first-of Le32 n number w rest all behind long e = least-of number w rest all e
first-of Be64 n number w rest all behind long e =
    let j = length (reverse rest) in
    let sized : j ≡ n - length w = length-reverse rest ∙ (let l = length-append w rest in omega arith) in
    let turn = mul_comm (256 ^ j) (little_endian (reverse w)) in
    sym (ap (λ (k : ℕ). number / 256 ^ k) (sym sized)
    ∙ ap (λ (v : ℕ). v / 256 ^ j) (sym e ∙ ap little_endian (reverse-append w rest) ∙ number-append (reverse rest) (reverse w) ∙ omega arith)
    ∙ div-mul-add (little_endian (reverse w)) (256 ^ j) (little_endian (reverse rest)) (number-small (reverse rest) (All-reverse IsByte rest behind)))

-- ---- numbers that grow by a byte

power-grows : (k j : ℕ) → 256 ^ k ≤ 256 ^ (k + j)
power-grows k zero = let same : k ≡ k + 0 = omega arith in subst (λ (i : ℕ). 256 ^ k ≤ 256 ^ i) same (omega arith)
power-grows k (suc j) =
    let next : k + suc j ≡ suc (k + j) = omega arith in
    let e : 256 ^ (k + suc j) ≡ 256 * 256 ^ (k + j) = ap (λ (i : ℕ). 256 ^ i) next ∙ pow-succ' 256 (k + j) in
    let less = power-grows k j in
    omega arith

pub power-least : (k n : ℕ) → k ≤ n → 256 ^ k ≤ 256 ^ n
power-least k n h = let same : k + (n - k) ≡ n = omega arith in subst (λ (i : ℕ). 256 ^ k ≤ 256 ^ i) same (power-grows k (n - k))

pub power-fits : (k : ℕ) → k ≤ 15 → 256 ^ k < 2 ^ 128
power-fits k h = let least = power-least k 15 h in omega arith

product-small : (k b : ℕ) → b < 256 → b * 256 ^ k ≤ 255 * 256 ^ k
product-small k b small = mul-le b (256 ^ k) 255 (256 ^ k) (omega arith) (omega arith)

pub product-fits : (k b : ℕ) → k < 16 → b < 256 → b * 256 ^ k < 2 ^ 128
product-fits k b few small = let least = power-least k 15 (omega arith) in let most = product-small k b small in omega arith

pub sum-fits : (k number b : ℕ) → k < 16 → b < 256 → number < 256 ^ k → number + b * 256 ^ k < 2 ^ 128
sum-fits k number b few small below = let least = power-least k 15 (omega arith) in let most = product-small k b small in omega arith

pub number-grows : (profile : Profile) (w : Word) (c : Cell) → number_of profile (w ++ c ∷ []) ≡ grown profile (length w) (number_of profile w) (byte_of c)
number-grows Le64 w c = number-append w (c ∷ []) ∙ (let turn = mul_comm (256 ^ length w) (byte_of c) in omega arith)
number-grows Le32 w c = number-append w (c ∷ []) ∙ (let turn = mul_comm (256 ^ length w) (byte_of c) in omega arith)
number-grows Be64 w c = ap little_endian (reverse-append w (c ∷ [])) ∙ omega arith

pub bytes-more : (w : Word) (c : Cell) → is_byte c ≡ true → list_all is_byte w ≡ true → list_all is_byte (w ++ c ∷ []) ≡ true
bytes-more [] c is all = rw is refl
bytes-more (d ∷ w) c is all =
    let (first, others) = both (is_byte d) (list_all is_byte w) all in
    and-true (is_byte d) (list_all is_byte (w ++ c ∷ [])) first (bytes-more w c is others)

-- the byte of a cell that is one
pub byte-told : (c : Cell) (b : ℕ) → (if is_byte c then Some (byte_of c) else None) ≡ Some b → (is_byte c ≡ true) × (b ≡ byte_of c)
byte-told c b e = go (is_byte c) refl where
  go : (t : Bool) → is_byte c ≡ t → (is_byte c ≡ true) × (b ≡ byte_of c)
  go true is = (is, let same : (if is_byte c then Some (byte_of c) else None) ≡ Some (byte_of c) = rw is refl in cc)
  go false is = let same : (if is_byte c then Some (byte_of c) else None) ≡ None = rw is refl in cc
