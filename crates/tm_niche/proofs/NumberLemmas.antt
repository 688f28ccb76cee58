-- Numbers and the bytes that hold them, in each byte order.
use Rattle.std.proofs.Common.{◌≡◌, ℕ, zero, suc, ◌+◌, ◌*◌, ◌/◌, ◌%◌, ◌^◌, ◌<◌, refl, sym, ap, subst, ◌∙◌, Bool, true, false, List, [], ◌∷◌, ◌++◌, length, map, reverse, ◌⊎◌, inl, inr, ⊎_elim, ◌↔◌, arith, All}
use Rattle.std.proofs.lemmas.Grind.{reverse_onto}
use Rattle.std.proofs.lemmas.List.{reverse-reverse, length-reverse}
use Rattle.std.proofs.lemmas.List.Elements.{All-head, All-tail, All-cons, All-nil}
use Rattle.std.proofs.Math.Nat.{pow-succ'}
use Rattle.tm_base.specs.declared.cell.Cell.{Cell}
use Rattle.tm_base.specs.declared.cell.Cell.TheVariants.{Byte}
use Rattle.tm_base.specs.declared.profile.Profile.{Profile}
use Rattle.tm_base.specs.declared.profile.Profile.TheVariants.{Le64, Be64, Le32}
use Rattle.tm_base.specs.Cells.{Word, IsByte, byte_of, little_endian}
use Rattle.tm_base.specs.Profiles.{number_of}
use Rattle.tm_base.specs.Valid.{AreBytes}
use Rattle.tm_niche.specs.Forms.{turned}

-- what holds of all of two lists
pub All-append : {X : Type 0} (P : X → Type 0) (xs ys : List X) → All P xs → All P ys → All P (xs ++ ys)
All-append P [] ys h k = k
All-append P (x ∷ xs) ys h k = All-cons P x (xs ++ ys) (All-head P x xs h) (All-append P xs ys (All-tail P x xs h) k)

pub All-reverse : {X : Type 0} (P : X → Type 0) (xs : List X) → All P xs → All P (reverse xs)
All-reverse P [] h = h
All-reverse P (x ∷ xs) h =
    subst (All P) (sym (reverse_onto xs x [])) (All-append P (reverse xs) (x ∷ []) (All-reverse P xs (All-tail P x xs h)) (All-cons P x [] (All-head P x xs h) (All-nil P)))

pub bytes-reverse : (n : ℕ) (w : Word) → AreBytes n w → AreBytes n (reverse w)
bytes-reverse n w (long, all) = (length-reverse w ∙ long, All-reverse IsByte w all)

pub map-append : {X Y : Type 0} (f : X → Y) (xs ys : List X) → map f (xs ++ ys) ≡ map f xs ++ map f ys
map-append f [] ys = refl
map-append f (x ∷ xs) ys = ap (λ zs. f x ∷ zs) (map-append f xs ys)

pub map-reverse : {X Y : Type 0} (f : X → Y) (xs : List X) → map f (reverse xs) ≡ reverse (map f xs)
map-reverse f [] = refl
map-reverse f (x ∷ xs) =
    ap (map f) (reverse_onto xs x []) ∙ map-append f (reverse xs) (x ∷ []) ∙ ap (λ zs. zs ++ (f x ∷ [])) (map-reverse f xs) ∙ sym (reverse_onto (map f xs) (f x) [])

-- ---- which numbers are above 0

step-some : (b m n : ℕ) → (0 < m → 0 < n) → 0 < b + 256 * m → 0 < b + 256 * n
step-some b zero n f h = omega arith
step-some b (suc m) n f h = let k = f (omega arith) in omega arith

some-left : (u v : Word) → 0 < little_endian u → 0 < little_endian (u ++ v)
some-left [] v h = absurd (omega arith)
some-left (c ∷ u) v h = step-some (byte_of c) (little_endian u) (little_endian (u ++ v)) (some-left u v) h

some-right : (u v : Word) → 0 < little_endian v → 0 < little_endian (u ++ v)
some-right [] v h = h
some-right (c ∷ u) v h = let k = some-right u v h in omega arith

some-one : (b m : ℕ) → 0 < b + 256 * m → (0 < b) ⊎ (0 < m)
some-one zero m h = inr (omega arith)
some-one (suc b) m h = inl (omega arith)

some-reversed : (w : Word) → 0 < little_endian w → 0 < little_endian (reverse w)
some-reversed [] h = h
some-reversed (c ∷ w) h =
    subst (λ u. 0 < little_endian u) (sym (reverse_onto w c []))
    (⊎_elim (λ (here : 0 < byte_of c). some-right (reverse w) (c ∷ []) (omega arith)) (λ (behind : 0 < little_endian w). some-left (reverse w) (c ∷ []) (some-reversed w behind)) (some-one (byte_of c) (little_endian w) h))

-- that a number is above 0 doesn't hang on the byte order
pub some-number : (profile : Profile) (w : Word) → (0 < little_endian w) ↔ (0 < number_of profile w)
some-number Le64 w = (λ h. h, λ h. h)
some-number Le32 w = (λ h. h, λ h. h)
some-number Be64 w = (some-reversed w, λ h. subst (λ u. 0 < little_endian u) (reverse-reverse w) (some-reversed (reverse w) h))

-- ---- the bytes of a number

-- so many low bytes of a number in two's complement
abbrev pub bytes_of : Bool → ℕ → ℕ → List ℕ
bytes_of negative zero n = []
bytes_of negative (suc size) n = turned negative (n % 256) ∷ bytes_of negative size (n / 256)

small-quotient : (size n : ℕ) → n < 256 ^ suc size → n / 256 < 256 ^ size
small-quotient size n h = let e : 256 ^ suc size ≡ 256 * 256 ^ size = pow-succ' 256 size in omega arith

-- the number that they hold
pub plain-number : (size n : ℕ) → n < 256 ^ size → little_endian (map Byte (bytes_of false size n)) ≡ n
plain-number zero n h = omega arith
plain-number (suc size) n h = let e = plain-number size (n / 256) (small-quotient size n h) in omega arith

pub negative-number : (size n : ℕ) → n < 256 ^ size → little_endian (map Byte (bytes_of true size n)) + (n + 1) ≡ 256 ^ size
negative-number zero n h = omega arith
negative-number (suc size) n h =
    let e = negative-number size (n / 256) (small-quotient size n h) in
    let p : 256 ^ suc size ≡ 256 * 256 ^ size = pow-succ' 256 size in
    omega arith

turned-small : (negative : Bool) (n : ℕ) → turned negative (n % 256) < 256
turned-small true n = omega arith
turned-small false n = omega arith

pub bytes_of-are : (negative : Bool) (size n : ℕ) → AreBytes size (map Byte (bytes_of negative size n))
bytes_of-are negative zero n = (refl, All-nil IsByte)
bytes_of-are negative (suc size) n =
    let (long, all) = bytes_of-are negative size (n / 256) in
    (ap (λ (k : ℕ). suc k) long, All-cons IsByte (Byte (turned negative (n % 256))) (map Byte (bytes_of negative size (n / 256))) (turned-small negative n) all)

digit-same : (a b m n : ℕ) → a < 256 → b < 256 → a + 256 * m ≡ b + 256 * n → (a ≡ b) × (m ≡ n)
digit-same a b m n p q e = (omega arith, omega arith)

byte-same : (c d : Cell) (v w : Word) → IsByte c → IsByte d → byte_of c ≡ byte_of d → v ≡ w → c ∷ v ≡ d ∷ w
byte-same (Byte a) (Byte b) v w p q e s = rw (e, s) refl
byte-same (Byte a) _ v w p q e s = elim q [ ]
byte-same _ d v w p q e s = elim p [ ]

small-byte : (c : Cell) → IsByte c → byte_of c < 256
small-byte (Byte b) h = h
small-byte _ h = elim h [ ]

-- bytes that hold one number are the same
pub number-same : (v w : Word) → length v ≡ length w → All IsByte v → All IsByte w → little_endian v ≡ little_endian w → v ≡ w
number-same [] [] n p q e = refl
number-same [] (d ∷ w) n p q e = absurd (omega arith)
number-same (c ∷ v) [] n p q e = absurd (omega arith)
number-same (c ∷ v) (d ∷ w) n p q e =
    let first = All-head IsByte c v p in
    let second = All-head IsByte d w q in
    let (a, b) = digit-same (byte_of c) (byte_of d) (little_endian v) (little_endian w) (small-byte c first) (small-byte d second) e in
    byte-same c d v w first second a (number-same v w (omega arith) (All-tail IsByte c v p) (All-tail IsByte d w q) b)
