-- What one read or write did, and what all of them did together.
use Rattle.std.proofs.Common.{◌≡◌, ℕ, ◌+◌, ◌-◌, ◌≤◌, Option, None, Some, List, [], ◌++◌, length, take, drop, refl, sym, ap, ◌∙◌, append_assoc, append-nil, length-append, take-append-drop, arith}
use Rattle.std.proofs.Math.Seq.{drop-append_seam}
use Rattle.std.proofs.lemmas.List.{take_at, take_rest, drop-drop}
use Rattle.std.proofs.KnownBytes.{Appends-nil, Appends-trans, Appends-kept}
use Rattle.std.specs.Io.KnownBytes.{Appends, Consumes, IsAtEnd, Keeps}
use Rattle.tm_io.specs.Told.{TakesAll, TakesPast, TakesAtMost, AddsAll, AddsPrefix}

-- what was taken up to the end is all
pub takes_all : (a b : Option (List ℕ)) (bytes : List ℕ) → Consumes a b bytes → IsAtEnd b → TakesAll a b bytes
takes_all None b bytes taken end = tt
takes_all (Some told) None bytes taken end = absurd taken
takes_all (Some told) (Some rest) bytes taken end =
    (sym (taken ∙ ap (λ xs. bytes ++ xs) end ∙ append-nil bytes), ap Some end)

-- one byte more than the limit is past it
pub takes_past : (a b : Option (List ℕ)) (bytes : List ℕ) (limit : ℕ) → Consumes a b bytes → length bytes ≡ limit + 1 → TakesPast a b limit
takes_past None b bytes limit taken full = tt
takes_past (Some told) None bytes limit taken full = absurd taken
takes_past (Some told) (Some rest) bytes limit taken full = (
  rw taken (omega (arith, full, length-append bytes rest)),
  ap Some (sym (ap (λ n. drop n told) (sym full) ∙ ap (drop (length bytes)) taken ∙ drop-append_seam bytes rest)),
)

-- what was taken is a front of what was told
pub takes_at_most : (a b : Option (List ℕ)) (bytes : List ℕ) (most : ℕ) → Consumes a b bytes → length bytes ≤ most → TakesAtMost a b most
takes_at_most None b bytes most taken few = tt
takes_at_most (Some told) None bytes most taken few = absurd taken
takes_at_most (Some told) (Some rest) bytes most taken few = (bytes, rest, few, taken, refl)

-- what a read of memory puts at the buffer's front is what is no longer left
pub gives_front : (bytes buf given : List ℕ) (start n : ℕ) → given ≡ take n (drop start bytes) → length given ≡ n
    → drop start bytes ≡ take n (given ++ drop n buf) ++ drop (start + n) bytes
gives_front bytes buf given start n same long =
    sym (ap (λ xs. xs ++ drop (start + n) bytes) (take_at given (drop n buf) n long ∙ same)
    ∙ ap (λ xs. take n (drop start bytes) ++ xs) (sym (drop-drop n start bytes))
    ∙ take-append-drop n (drop start bytes))

-- all bytes before the rest were added
abbrev pub AddsUpTo : Option (List ℕ) → Option (List ℕ) → List ℕ → List ℕ → Type 0
AddsUpTo a b bytes rest = (front : List ℕ) × (bytes ≡ front ++ rest) × Appends a b front

pub adds_none : (a : Option (List ℕ)) (bytes : List ℕ) → AddsUpTo a a bytes bytes
adds_none a bytes = ([], refl, Appends-nil a)

-- a write adds a front of the rest, and `&rest[n..]` is left
pub adds_more : (a b c : Option (List ℕ)) (bytes rest : List ℕ) (n : ℕ) → AddsUpTo a b bytes rest → Appends b c (take n rest)
    → AddsUpTo a c bytes (take (length rest - n) (drop n rest))
adds_more a b c bytes rest n done more = rw take_rest (
  done.0 ++ take n rest,
  done.1 ∙ ap (λ xs. done.0 ++ xs) (sym (take-append-drop n rest)) ∙ sym (append_assoc done.0 (take n rest) (drop n rest)),
  Appends-trans a b c done.0 (take n rest) done.2 more,
)

-- a write that failed added nothing
pub adds_kept : (a b c : Option (List ℕ)) (bytes rest : List ℕ) → AddsUpTo a b bytes rest → Keeps b c → AddsUpTo a c bytes rest
adds_kept a b c bytes rest done same = (done.0, done.1, Appends-kept a b c done.0 done.2 same)

-- with no rest, all bytes were added
pub adds_all : (a b : Option (List ℕ)) (bytes rest : List ℕ) → AddsUpTo a b bytes rest → rest ≡ [] → AddsAll a b bytes
adds_all None b bytes rest done end = tt
adds_all (Some told) None bytes rest done end = absurd done.2
adds_all (Some told) (Some now) bytes rest done end =
    ap Some (done.2 ∙ ap (λ xs. told ++ xs) (sym (done.1 ∙ ap (λ xs. done.0 ++ xs) end ∙ append-nil done.0)))

-- what was added is a prefix of the bytes
pub adds_prefix : (a b : Option (List ℕ)) (bytes rest : List ℕ) → AddsUpTo a b bytes rest → AddsPrefix a b bytes
adds_prefix None b bytes rest done = tt
adds_prefix (Some told) None bytes rest done = absurd done.2
adds_prefix (Some told) (Some now) bytes rest done = (done.0, rest, done.1, ap Some done.2)

-- a write adds a front of its piece
pub adds_front : (a b : Option (List ℕ)) (bytes : List ℕ) (n : ℕ) → Appends a b (take n bytes) → AddsPrefix a b bytes
adds_front None b bytes n more = tt
adds_front (Some told) None bytes n more = absurd more
adds_front (Some told) (Some now) bytes n more = (take n bytes, drop n bytes, sym (take-append-drop n bytes), ap Some more)
