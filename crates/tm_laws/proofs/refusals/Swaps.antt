-- A reference that stands open in a word may be filled by each source reference that is taken as it; and
-- where none stands open, none is needed.
use Rattle.std.proofs.Common.{◌≡◌, ℕ, zero, suc, ◌+◌, ◌∙◌, ◌∷◌, ◌^◌, ◌<◌, ◌==◌, refl, ap, subst, Bool, true, false, if◌then◌else◌, map, inl, inr, arith}
use Rattle.std.specs.List.{All, range_with_len}
use Rattle.std.proofs.lemmas.Bool.Decides.{Decides-eqb}
use Rattle.std.proofs.lemmas.List.{map-id}
use Rattle.tm_base.specs.declared.cell.Cell.{Cell}
use Rattle.tm_base.specs.declared.cell.Cell.TheVariants.{Byte, Uninit, Ptr}
use Rattle.tm_base.specs.Cells.{Word, IsFree, pointer_of, own, OrOwn}
use Rattle.tm_base.specs.Expanded.{Expanded}
use Rattle.tm_base.specs.Valid.{Valid}
use Rattle.tm_laws.specs.WordLaws.{IsClosed, IsOfSources}
use Rattle.tm_laws.proofs.refusals.Moves.{Valid-moved}

-- where no reference stands open in a word, that some may isn't needed
pub own-isn't-needed : (A : ℕ → ℕ → Type 0) (keep : Bool) (t : Expanded) (w : Word) → All IsClosed w → Valid (OrOwn A) keep t w → Valid A keep t w
own-isn't-needed A keep t w closed h =
    subst (Valid A keep t) (map-id w) (Valid-moved (OrOwn A) A keep (λ c. c) IsClosed (λ c free. refl) moves t w closed h)
  where
    moves : (size x u : ℕ) → x < 2 ^ 32 → OrOwn A x u → (y : ℕ) × A y u × (map (λ (c : Cell). c) (pointer_of size x) ≡ pointer_of size y)
    moves size x u below (inl a) = (x, a, map-id (pointer_of size x))
    moves size x u below (inr e) = absurd (omega arith)

-- the open reference u gives way to r
abbrev pub swap : ℕ → ℕ → Cell → Cell
swap u r (Byte b) = Byte b
swap u r Uninit = Uninit
swap u r (Ptr x k) = Ptr (record { 0 = if x.0 == own u then r else x.0 }) k

swap-free : (u r : ℕ) (c : Cell) → IsFree c → swap u r c ≡ c
swap-free u r (Byte b) h = refl
swap-free u r Uninit h = refl
swap-free u r (Ptr x k) h = elim h [ ]

swap-pointer : (u r size x : ℕ) (b : Bool) → (x == own u) ≡ b → map (swap u r) (pointer_of size x) ≡ pointer_of size (if b then r else x)
swap-pointer u r size x b e = swapped_cells size 0 ∙ ap (λ (c : Bool). pointer_of size (if c then r else x)) e where
  swapped_cells : (n i : ℕ) → map (swap u r) (map (λ k. Ptr (record { 0 = x }) k) (range_with_len i n)) ≡ map (λ k. Ptr (record { 0 = if x == own u then r else x }) k) (range_with_len i n)
  swapped_cells zero i = refl
  swapped_cells (suc n) i = ap (λ (w : Word). Ptr (record { 0 = if x == own u then r else x }) i ∷ w) (swapped_cells n (i + 1))

module _ (A : ℕ → ℕ → Type 0) (sources : IsOfSources A) (u r : ℕ) (taken : A r u) where
  swap-moves : (size x t : ℕ) (b : Bool) → (x == own u) ≡ b → OrOwn A x t → (y : ℕ) × OrOwn A y t × (map (swap u r) (pointer_of size x) ≡ pointer_of size y)
  swap-moves size x t true e (inl a) =
      let same : x ≡ own u = (Decides-eqb x (own u)).0 e in
      let below : x < 2 ^ 32 = sources x t a in
      absurd (omega arith)
  swap-moves size x t true e (inr o) =
      let same : x ≡ own u = (Decides-eqb x (own u)).0 e in
      let one : u ≡ t = omega arith in
      (r, inl (subst (λ (v : ℕ). A r v) one taken), swap-pointer u r size x true e)
  swap-moves size x t false e h = (x, h, swap-pointer u r size x false e)

  -- a word with the open reference u is one with r in its place
  pub swapped : (keep : Bool) (t : Expanded) (w : Word) → Valid (OrOwn A) keep t w → Valid (OrOwn A) keep t (map (swap u r) w)
  swapped keep t w h =
      Valid-moved (OrOwn A) (OrOwn A) keep (swap u r) (λ c. Unit {0}) (swap-free u r) (λ size x v any a. swap-moves size x v (x == own u) refl a) t w (λ k d below. tt) h
