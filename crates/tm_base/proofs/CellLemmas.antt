-- How many cells a reference has, when a target reference may hold itself, and a fit with one cell more.
use Rattle.std.proofs.Common.{◌≡◌, ℕ, length, Bool, ◌==◌, ◌↔◌, ◌+◌, ◌-◌, ◌<◌, ◌≤◌, ◌⊎◌, inl, inr, [], ◌∷◌, ◌++◌, take, get_or, replicate, refl, arith, append_assoc, append-nil}
use Rattle.std.proofs.lemmas.Bool.Decides.{Decides-or, Decides-eqb}
use Rattle.std.proofs.lemmas.List.FromFn.{length-map-range_with_len}
use Rattle.tm_base.specs.declared.cell.Cell.TheVariants.{Ptr, Uninit}
use Rattle.tm_base.specs.Cells.{pointer_of, own, or_own, OrOwn, Word, fit}
use Rattle.tm_base.specs.Transmutes.{holds}
use Rattle.std.proofs.lemmas.Bool.{cases_lt}
use Rattle.std.proofs.lemmas.List.{take_more, take_all, replicate_more, get_or_past}

-- all cells of a reference are as many as it has bytes
pub length-pointer_of : (size x : ℕ) → length (pointer_of size x) ≡ size
length-pointer_of size x = length-map-range_with_len (λ k. Ptr (record { 0 = x }) k) 0 size

-- a target reference may hold itself by the test exactly where it may by the relation
pub or_own-exact : (test : ℕ → ℕ → Bool) (x t : ℕ) → holds (or_own test) x t ↔ OrOwn (holds test) x t
or_own-exact test x t =
    let both = Decides-or (test x t) (x == own t) (λ h. h, λ h. h) (Decides-eqb x (own t)) in
    (λ h. both.0 h, λ h. both.1 h)

-- a fit with one cell more
pub fit-more : (w : Word) (m : ℕ) → fit w (m + 1) ≡ fit w m ++ get_or w m Uninit ∷ []
fit-more w m = by (cases_lt m (length w)) where
  by : (m < length w) ⊎ (length w ≤ m) → fit w (m + 1) ≡ fit w m ++ get_or w m Uninit ∷ []
  by (inl inside) =
      let none : m - length w ≡ 0 = omega arith in
      let still : m + 1 - length w ≡ 0 = omega arith in
      rw (none, still, append-nil (take (m + 1) w), append-nil (take m w)) (take_more w m Uninit inside)
  by (inr past) =
      let more : m + 1 - length w ≡ (m - length w) + 1 = omega arith in
      rw (
        take_all (m + 1) w (omega arith),
        take_all m w past,
        get_or_past w m Uninit past,
        more,
        ← replicate_more (m - length w) Uninit,
        ← append_assoc w (replicate (m - length w) Uninit) (Uninit ∷ []),
      )
      refl
