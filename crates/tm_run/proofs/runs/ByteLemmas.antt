-- How many bytes hexadecimal digits write.
use Rattle.std.proofs.Common.{◌≡◌, ℕ, ◌+◌, ◌≤◌, ◌%◌, ◌==◌, Bool, true, false, Result, Ok, Err, List, [], ◌∷◌, length, ap, refl, subst, sym, arith}
use Rattle.std.proofs.lemmas.Bool.{and_parts, leb-true}
use Rattle.hex.specs.Hex.{decode_of, decode_pairs, pair_value, ◌>>=◌}
use Rattle.hex.specs.declared.error.FromHexError.{FromHexError}
use Rattle.hex.specs.declared.error.FromHexError.TheVariants.{OddLength}
use Rattle.std.specs.Prelude.{if◌then◌else◌}
use Rattle.tm_validate.specs.Digits.{are_digits}

-- two digits write a byte
decoded-half : (i : ℕ) (text bytes : List ℕ) → decode_pairs i text ≡ Ok bytes → length bytes + length bytes ≡ length text
unfolding decode_pairs
decoded-half i [] [] e = refl
decoded-half i [] (b ∷ bytes) e = cc
decoded-half i (digit ∷ []) bytes e = cc
decoded-half i (high ∷ low ∷ rest) bytes e = by (λ more is. decoded-half (i + 2) rest more is) (pair_value high low i) (decode_pairs (i + 2) rest) refl e
  where
    by : ((more : List ℕ) → decode_pairs (i + 2) rest ≡ Ok more → length more + length more ≡ length rest)
        → (first : Result ℕ FromHexError) (others : Result (List ℕ) FromHexError) → decode_pairs (i + 2) rest ≡ others
        → (first >>= (λ byte. others >>= (λ bytes. Ok (byte ∷ bytes)))) ≡ Ok bytes → length bytes + length bytes ≡ length (high ∷ low ∷ rest)
    by behind (Err err) others is e = cc
    by behind (Ok byte) (Err err) is e = cc
    by behind (Ok byte) (Ok more) is e =
        let half : length more + length more ≡ length rest = behind more is in
        let all : byte ∷ more ≡ bytes = cc e in
        subst (λ (bs : List ℕ). length bs + length bs ≡ length (high ∷ low ∷ rest)) all (omega (arith, half))

decoded : (text bytes : List ℕ) → decode_of text ≡ Ok bytes → decode_pairs 0 text ≡ Ok bytes
decoded text bytes = by (length text % 2 == 1)
  where
    by : (odd : Bool) → (if odd then Err OddLength else decode_pairs 0 text) ≡ Ok bytes → decode_pairs 0 text ≡ Ok bytes
    by true e = cc
    by false e = e

-- so there are never too many
pub bytes-few : (text bytes : List ℕ) → are_digits text ≡ true → decode_of text ≡ Ok bytes → length bytes ≤ 65536
bytes-few text bytes digits e =
    let short : length text ≤ 131072 = leb-true (length text) 131072 (and_parts _ _ (and_parts _ _ digits).1).0 in
    let half = decoded-half 0 text bytes (decoded text bytes e) in
    omega (arith, short, half)
