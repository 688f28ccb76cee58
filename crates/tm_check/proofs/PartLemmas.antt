-- Parts that stand one behind another: where each goes on, so does the whole.
use Rattle.std.proofs.Common.{◌≡◌, ℕ, zero, suc, ◌+◌, ◌-◌, ◌*◌, ◌<◌, ◌≤◌, refl, sym, ◌∙◌, ap, subst, Bool, true, ◌&&◌, [], ◌++◌, length, take, drop, arith}
use Rattle.std.proofs.lemmas.List.{length-append, length-take, length-drop, nil_from_length}
use Rattle.std.specs.List.{All, list_all}
use Rattle.tm_base.specs.Cells.{Word, IsFree, Times}
use Rattle.tm_base.specs.ValidTest.{is_free}
use Rattle.tm_check.specs.Begins.{times_begin}
use Rattle.tm_check.proofs.CutLemmas.{and-true, both, cut_at, filled, filled-free, filled-long, front-free, join}

-- some cells behind those that are told make what P says
abbrev pub Goes : (Word → Type 0) → Word → Type 0
Goes P w = (rest : Word) × P (w ++ rest)

-- the same, where there are so many cells then
abbrev pub GoesTo : ℕ → (Word → Type 0) → Word → Type 0
GoesTo n P w = (rest : Word) × (length (w ++ rest) ≡ n) × P (w ++ rest)

-- The test of n cells is sound: what it takes goes on. E holds where not each cell is told.
abbrev pub IsSound : Type 0 → ℕ → (Word → Bool) → (Word → Type 0) → Type 0
IsSound E n test P = (w : Word) → test w ≡ true → length w ≤ n → (length w < n → E) → Goes P w

abbrev pub IsSoundTo : Type 0 → ℕ → (Word → Bool) → (Word → Type 0) → Type 0
IsSoundTo E n test P = (w : Word) → test w ≡ true → length w ≤ n → (length w < n → E) → GoesTo n P w

-- and complete: it takes what goes on
abbrev pub IsComplete : (Word → Bool) → (Word → Type 0) → Type 0
IsComplete test P = (w rest : Word) → P (w ++ rest) → test w ≡ true

module _ (s : ℕ) (test : Word → Bool) (P : Word → Type 0) (size : (u : Word) → P u → length u ≡ s) where
  pub times-sound : (E : Type 0) → IsSound E s test P → (n : ℕ) → IsSound E (n * s) (times_begin n s test) (Times n P)
  times-sound E each zero w h short unknown = let none = nil_from_length w (omega arith) in ([], ap (λ u. u ++ []) none)
  times-sound E each (suc n) w h short unknown =
      let (first, others) = both (test (take s w)) (times_begin n s test (drop s w)) h in
      let taken = length-take s w in
      let dropped = length-drop s w in
      let (before, here) = each (take s w) first (omega arith) (λ less. unknown (omega (arith, less))) in
      let (behind, back) = times-sound E each n (drop s w) others (omega arith) (λ less. unknown (omega (arith, less))) in
      let (rest, e) = join s w before behind (size (take s w ++ before) here) in
      (rest, (take s w ++ before, drop s w ++ behind, sym e, here, back))

  pub times-told : IsComplete test P → (n : ℕ) → IsComplete (times_begin n s test) (Times n P)
  times-told each zero w rest h = refl
  times-told each (suc n) w rest (u, v, e, first, others) =
      let ((before, f), (behind, g)) = cut_at s w rest u v (size u first) e in
      and-true (test (take s w)) (times_begin n s test (drop s w)) (each (take s w) before (subst P (sym f) first))
      (times-told each n (drop s w) behind (subst (Times n P) (sym g) others))

  -- free cells up to a place, the part, and what is behind it, together so many cells
  module _ (rest_test : Word → Bool) (Q : Word → Type 0) (gap m : ℕ) where
    abbrev pub Follows : Word → Type 0
    Follows w = (front : Word) × (here : Word) × (back : Word) × (w ≡ front ++ (here ++ back)) × (length front ≡ gap) × All IsFree front × P here × Q back

    abbrev pub follows_test : Word → Bool
    follows_test w = list_all is_free (take gap w) && (test (take s (drop gap w)) && rest_test (drop s (drop gap w)))

    pub follows-sound : (E : Type 0) → IsSound E s test P → gap + s ≤ m → IsSoundTo E (m - (gap + s)) rest_test Q → IsSoundTo E m follows_test Follows
    follows-sound E each room others w h short unknown =
        let left = drop gap w in
        let (free, further) = both (list_all is_free (take gap w)) (test (take s left) && rest_test (drop s left)) h in
        let (part, back) = both (test (take s left)) (rest_test (drop s left)) further in
        let front = filled gap (take gap w) in
        let a = length-take gap w in
        let b = length-drop gap w in
        let c = length-take s left in
        let d = length-drop s left in
        let wide : length front ≡ gap = filled-long gap (take gap w) (omega arith) in
        let (before, valid) = each (take s left) part (omega arith) (λ less. unknown (omega (arith, less))) in
        let (behind, long, q) = others (drop s left) back (omega arith) (λ less. unknown (omega (arith, less))) in
        let here = take s left ++ before in
        let behind_all = drop s left ++ behind in
        let size_here : length here ≡ s = size here valid in
        let (r, e) = join s left before behind size_here in
        let (rest, f) = join gap w _ r wide in
        let whole : w ++ rest ≡ front ++ (here ++ behind_all) = sym (ap (λ u. front ++ u) e ∙ f) in
        let total : length (w ++ rest) ≡ length front + (length here + length behind_all) =
        ap length whole ∙ length-append front (here ++ behind_all) ∙ ap (λ (k : ℕ). length front + k) (length-append here behind_all) in
        (rest, omega arith, (front, here, behind_all, whole, wide, filled-free gap (take gap w) free, valid, q))

    pub follows-told : IsComplete test P → IsComplete rest_test Q → IsComplete follows_test Follows
    follows-told each others w rest (front, here, back, e, wide, free, valid, q) =
        let left = drop gap w in
        let ((b1, f1), (b2, f2)) = cut_at gap w rest front (here ++ back) wide e in
        let ((b3, f3), (b4, f4)) = cut_at s left b2 here back (size here valid) f2 in
        and-true (list_all is_free (take gap w)) (test (take s left) && rest_test (drop s left)) (front-free (take gap w) b1 front f1 free)
        (and-true (test (take s left)) (rest_test (drop s left)) (each (take s left) b3 (subst P (sym f3) valid)) (others (drop s left) b4 (subst Q (sym f4) q)))
