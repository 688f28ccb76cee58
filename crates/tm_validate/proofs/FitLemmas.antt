-- What bytes hold in a type of another size, byte by byte.
use Rattle.std.proofs.Common.{◌≡◌, ◌∙◌, ℕ, zero, suc, nat_lt, slice_index_or, ◌+◌, ◌-◌, ◌<◌, ◌≤◌, Some, List, [], ◌∷◌, ◌++◌, length, take, get_or, replicate, slice_get, option_map, refl, ap, arith, rules, Fits, w8}
use Rattle.std.specs.List.{list_all}
use Rattle.std.proofs.lemmas.Bool.{lt-ltb}
use Rattle.std.proofs.lemmas.List.{get_or_past, length-map}
use Rattle.std.proofs.lemmas.Option.{get_or_from_slice_get, slice_get-map, slice_get_read}
use Rattle.tm_base.specs.declared.cell.Cell.{Cell}
use Rattle.tm_base.specs.declared.cell.Cell.TheVariants.{Byte, Uninit}
use Rattle.tm_base.specs.Cells.{Word, fit}
use Rattle.tm_base.specs.ValidTest.{is_free}
use Rattle.tm_base.proofs.CellLemmas.{fit-more}
use Rattle.tm_check.proofs.CutLemmas.{and-true, both}
use Rattle.tm_validate.specs.Against.{bytes_of}
use Rattle.tm_validate.proofs.AlikeLemmas.{Free, free-front}

-- the next cell is the next byte
pub next-byte : (bytes : List ℕ) (m byte : ℕ) → m < length bytes → byte ≡ get_or bytes m byte → fit (bytes_of bytes) (m + 1) ≡ fit (bytes_of bytes) m ++ Byte byte ∷ []
next-byte bytes m byte inside is =
    let at : slice_get (bytes_of bytes) m ≡ Some (Byte byte) = slice_get-map Byte bytes m ∙ ap (option_map Byte) (slice_get_read bytes (length bytes) m byte refl inside is) in
    fit-more (bytes_of bytes) m ∙ ap (λ (c : Cell). fit (bytes_of bytes) m ++ c ∷ []) (get_or_from_slice_get (bytes_of bytes) m (Byte byte) Uninit at)

-- behind the last byte it is uninitialised
pub next-uninit : (bytes : List ℕ) (m : ℕ) → length bytes ≤ m → fit (bytes_of bytes) (m + 1) ≡ fit (bytes_of bytes) m ++ Uninit ∷ []
next-uninit bytes m past =
    let long = length-map bytes Byte in
    fit-more (bytes_of bytes) m ∙ ap (λ (c : Cell). fit (bytes_of bytes) m ++ c ∷ []) (get_or_past (bytes_of bytes) m Uninit (omega arith))

-- no cell of them is of a reference
free-join : (u v : Word) → Free u → Free v → Free (u ++ v)
free-join [] v h k = k
free-join (c ∷ u) v h k =
    let (here, rest) = both (is_free c) (list_all is_free u) h in
    and-true (is_free c) (list_all is_free (u ++ v)) here (free-join u v rest k)

free-uninit : (n : ℕ) → Free (replicate n Uninit)
free-uninit zero = refl
free-uninit (suc n) = free-uninit n

free-bytes : (bytes : List ℕ) → ((i : ℕ) → Fits w8 (slice_index_or bytes i 0)) → Free (bytes_of bytes)
free-bytes [] h = refl
free-bytes (b ∷ bytes) h =
    let first : Fits w8 b = h 0 in
    let small : b < 256 = search rules in
    and-true (nat_lt b 256) (list_all is_free (bytes_of bytes)) (lt-ltb b 256 small) (free-bytes bytes (λ i. h (suc i)))

pub free-fit : (bytes : List ℕ) (m : ℕ) → ((i : ℕ) → Fits w8 (slice_index_or bytes i 0)) → Free (fit (bytes_of bytes) m)
free-fit bytes m h = free-join (take m (bytes_of bytes)) (replicate (m - length (bytes_of bytes)) Uninit) (free-front m (bytes_of bytes) (free-bytes bytes h)) (free-uninit (m - length (bytes_of bytes)))
