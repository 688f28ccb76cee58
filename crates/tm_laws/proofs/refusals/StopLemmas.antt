-- Where a target refuses a word, and what stands there.
use Rattle.std.proofs.Common.{◌≡◌, ℕ, zero, suc, ◌+◌, ◌-◌, ◌<◌, ◌≤◌, ◌⊎◌, refl, sym, ◌∙◌, ap, subst, ◌==◌, Bool, true, false, if◌then◌else◌, [], ◌∷◌, ◌++◌, length, take, drop, map, replicate, inl, inr, arith, Some, slice_get, length-append, length-take, append-nil, append_assoc}
use Rattle.std.specs.List.{All, Contains}
use Rattle.std.proofs.lemmas.Bool.Decides.{Decides-eqb}
use Rattle.std.proofs.lemmas.List.{length-replicate, map-append, nil_from_length, take-append-drop, take_all, take_more, drop_more}
use Rattle.std.proofs.lemmas.List.Elements.{All-head, All-tail, All-append, All-replicate, All-take}
use Rattle.std.proofs.lemmas.Option.{get_or_from_slice_get, slice_get_within}
use Rattle.tm_base.specs.declared.cell.Cell.{Cell}
use Rattle.tm_base.specs.declared.cell.Cell.TheVariants.{Byte, Uninit, Ptr}
use Rattle.tm_base.specs.declared.cell.RefId.{RefId}
use Rattle.tm_base.specs.declared.profile.Profile.{Profile}
use Rattle.tm_base.specs.Cells.{Word, IsFree, fit, own, OrOwn}
use Rattle.tm_base.specs.Expanded.{Expanded}
use Rattle.tm_base.specs.Layout.{size_of}
use Rattle.tm_base.specs.Profiles.{pointer_size}
use Rattle.tm_base.specs.Transmutes.{Same}
use Rattle.tm_base.specs.Valid.{Valid}
use Rattle.tm_base.specs.Viable.{HasWord, Viable, RefusesAt, StandsOpen}
use Rattle.tm_base.proofs.ValidLemmas.{Valid-length}
use Rattle.tm_laws.specs.WordLaws.{IsClosed, IsOfSources}
use Rattle.tm_laws.proofs.refusals.Moves.{All-second, All-middle}
use Rattle.tm_laws.proofs.refusals.Swaps.{own-isn't-needed, swap, swapped}
use Rattle.tm_laws.proofs.whole.Leaves.{Leaf, leaves}
use Rattle.tm_laws.proofs.whole.Types.{IsFor}
use Rattle.tm_laws.proofs.whole.Runs.{StandsWhole, append-split, stands-whole}
use Rattle.tm_laws.proofs.whole.Words.{IsCellOf, IsHeldBy, pointers-related}

-- a fit has the length that it was asked to have
pub fit-length : (w : Word) (m : ℕ) → length (fit w m) ≡ m
fit-length w m =
    let front = length-take m w in
    let back = length-replicate (m - length w) Uninit in
    let both = length-append (take m w) (replicate (m - length w) Uninit) in
    omega arith

-- and what holds of the word's cells, and of one that isn't initialised, holds of its cells
pub fit-all : (P : Cell → Type 0) → P Uninit → (w : Word) (m : ℕ) → All P w → All P (fit w m)
fit-all P gap w m h = All-append P (take m w) (replicate (m - length w) Uninit) (All-take P m w h) (All-replicate P (m - length w) Uninit gap)

-- the cells up to the place of one, with it
front_more : (w : Word) (o : ℕ) (c : Cell) → slice_get w o ≡ Some c → take (o + 1) w ≡ take o w ++ c ∷ []
front_more w o c e =
    take_more w o c (slice_get_within w o c e) ∙ ap (λ (d : Cell). take o w ++ d ∷ []) (get_or_from_slice_get w o c c e)

-- a word is what stands before a cell, the cell, and what stands behind it
cut_at : (w : Word) (o : ℕ) (c : Cell) → slice_get w o ≡ Some c → w ≡ take o w ++ (c ∷ drop (o + 1) w)
cut_at w o c e =
    sym (take-append-drop o w) ∙ ap (λ (u : Word). take o w ++ u) (drop_more w o c (slice_get_within w o c e))
    ∙ ap (λ (d : Cell). take o w ++ (d ∷ drop (o + 1) w)) (get_or_from_slice_get w o c c e)

-- what holds of 0 and not of n stops to hold behind some number below n
first_change : (P : ℕ → Type 0) → ((o : ℕ) → P o ⊎ (¬ P o)) → (n : ℕ) → P 0 → ¬ P n → (o : ℕ) × (o < n) × P o × (¬ P (o + 1))
first_change P known zero begins ends = absurd (ends begins)
first_change P known (suc n) begins ends = elim (known n) [
  | inl here ↦
      let next : n + 1 ≡ suc n = omega arith in
      (n, omega arith, here, λ h. ends (subst P next h))
  | inr gone ↦
      let before = first_change P known n begins gone in
      (before.0, omega (arith, before.1), before.2, before.3)
]

module _ (A : ℕ → ℕ → Type 0) (keep : Bool) (t : Expanded) where
  -- what begins a word of the target and has its size is one, where none stands open
  whole_viable : (u : Word) → length u ≡ size_of t → All IsClosed u → Viable A keep t u → Valid A keep t u
  whole_viable u long closed (rest, valid) =
      let size = Valid-length (OrOwn A) keep t (u ++ rest) valid in
      let parts = length-append u rest in
      let none : rest ≡ [] = nil_from_length rest (omega arith) in
      let all : u ++ rest ≡ u = ap (λ (v : Word). u ++ v) none ∙ append-nil u in
      own-isn't-needed A keep t u closed (subst (Valid (OrOwn A) keep t) all valid)

  -- A word that isn't one of the target is refused somewhere.
  pub refused-somewhere : (w : Word) → All IsClosed w → HasWord A keep t → ¬ Valid A keep t (fit w (size_of t))
      → ((o : ℕ) → Viable A keep t (take o (fit w (size_of t))) ⊎ (¬ Viable A keep t (take o (fit w (size_of t)))))
      → (o : ℕ) × (o < size_of t) × RefusesAt A keep t w o
  refused-somewhere w closed has_word refused known =
      let n = size_of t in
      let f = fit w n in
      let long : length f ≡ n = fit-length w n in
      let ends : ¬ Viable A keep t (take n f) = λ viable. refused (whole_viable f long (fit-all IsClosed tt w n closed) (subst (Viable A keep t) (take_all n f (omega arith)) viable)) in
      let found = first_change (λ o. Viable A keep t (take o f)) known n has_word ends in
      (found.0, found.1, record { goes_to = found.2; stops = found.3 })

  -- what is refused is a cell of the target
  pub refused-inside : (w : Word) (o : ℕ) → RefusesAt A keep t w o → o < size_of t
  refused-inside w o refuses =
      let past : ¬ (size_of t ≤ o) = past_none in
      grind arith
    where
      past_none : ¬ (size_of t ≤ o)
      past_none past =
          let f = fit w (size_of t) in
          let long : length f ≡ size_of t = fit-length w (size_of t) in
          let here : take o f ≡ f = take_all o f (omega arith) in
          let more : take (o + 1) f ≡ f = take_all (o + 1) f (omega arith) in
          refuses.stops (subst (Viable A keep t) (here ∙ sym more) refuses.goes_to)

module _ (profile : Profile) (A : ℕ → ℕ → Type 0) (keep : Bool) (t : Expanded) (for_it : IsFor profile t) where
  -- what goes on with the byte k of a reference goes on with the next one
  goes_along : (r : RefId) (j : ℕ) (p others : Word) → p ≡ others ++ Ptr r j ∷ [] → suc j < pointer_size profile → Viable A keep t p → Viable A keep t (p ++ Ptr r (suc j) ∷ [])
  goes_along r j p others e below (rest, valid) =
      let shape : p ++ rest ≡ others ++ (Ptr r j ∷ rest) = ap (λ (u : Word). u ++ rest) e ∙ append_assoc others (Ptr r j ∷ []) rest in
      let stands = stands-whole profile (OrOwn A) keep t for_it (p ++ rest) valid others rest r j shape in
      let next = stands.goes_on below in
      let same : p ++ rest ≡ (p ++ Ptr r (suc j) ∷ []) ++ next.0 = ap (λ (u : Word). p ++ u) next.1 ∙ sym (append_assoc p (Ptr r (suc j) ∷ []) next.0) in
      (next.0, subst (Valid (OrOwn A) keep t) same valid)

  first_byte : (w : Word) (o : ℕ) (r : RefId) (k : ℕ) (behind : Word) → RefusesAt A keep t w o → slice_get (fit w (size_of t)) o ≡ Some (Ptr r k)
      → StandsWhole (pointer_size profile) r k (take o (fit w (size_of t))) behind → k ≡ 0
  first_byte w o r zero behind refuses e stands = refl
  first_byte w o r (suc j) behind refuses e stands =
      let f = fit w (size_of t) in
      let last = stands.went_on j refl in
      let more = goes_along r j (take o f) last.0 last.1 stands.is_byte_of refuses.goes_to in
      absurd (refuses.stops (subst (Viable A keep t) (sym (front_more f o (Ptr r (suc j)) e)) more))

  -- Of a source's reference the first byte is refused.
  pub refused-pointer-is-first : (s : Expanded) → IsFor profile s → (w : Word) (o : ℕ) (r : RefId) (k : ℕ) → Valid Same true s w → RefusesAt A keep t w o
      → slice_get (fit w (size_of t)) o ≡ Some (Ptr r k) → k ≡ 0
  refused-pointer-is-first s source_for w o r k value refuses e =
      let n = size_of t in
      let f = fit w n in
      let p = take o f in
      let q = drop (o + 1) f in
      let filler = replicate (n - length w) Uninit in
      elim (append-split (take n w) filler p q (Ptr r k) (cut_at f o (Ptr r k) e)) [
        | inl s' ↦
            let shape : w ≡ p ++ (Ptr r k ∷ (s'.0 ++ drop n w)) =
            sym (take-append-drop n w) ∙ ap (λ (u : Word). u ++ drop n w) s'.1 ∙ append_assoc p (Ptr r k ∷ s'.0) (drop n w) in
            first_byte w o r k (s'.0 ++ drop n w) refuses e (stands-whole profile Same true s source_for w value p (s'.0 ++ drop n w) r k shape)
        | inr s' ↦
            let free : All IsFree filler = All-replicate IsFree (n - length w) Uninit tt in
            absurd (All-head IsFree (Ptr r k) q (All-second IsFree s'.0 (Ptr r k ∷ q) filler s'.2 free))
      ]

-- an open reference is swapped
swap-own : (u r : ℕ) → swap u r (Ptr (record { 0 = own u }) 0) ≡ Ptr (record { 0 = r }) 0
swap-own u r = ap (λ (b : Bool). Ptr (record { 0 = if b then r else own u }) 0) ((Decides-eqb (own u) (own u)).1 refl)

other_number : (x y : ℕ) (b : Bool) → (x == y) ≡ b → x < y → b ≡ false
other_number x y true e h =
    let same : x ≡ y = (Decides-eqb x y).0 e in
    absurd (omega arith)
other_number x y false e h = refl

-- and no other is
swap-closed_cell : (u r : ℕ) (c : Cell) → IsClosed c → swap u r c ≡ c
swap-closed_cell u r (Byte b) h = refl
swap-closed_cell u r Uninit h = refl
swap-closed_cell u r (Ptr x k) h = ap (λ (b : Bool). Ptr (record { 0 = if b then r else x.0 }) k) (other_number x.0 (own u) (x.0 == own u) refl (omega arith))

swap-closed : (u r : ℕ) (w : Word) → All IsClosed w → map (swap u r) w ≡ w
swap-closed u r [] h = refl
swap-closed u r (c ∷ w) h =
    let first = swap-closed_cell u r c (All-head IsClosed c w h) in
    let others = swap-closed u r w (All-tail IsClosed c w h) in
    cc

module _ (A : ℕ → ℕ → Type 0) (sources : IsOfSources A) (keep : Bool) (t : Expanded) where
  -- where a target reference may begin, each source reference that is taken as it may
  pub taken-goes_on : (p : Word) (r u : ℕ) → All IsClosed p → StandsOpen A keep t p u → A r u → Viable A keep t (p ++ Ptr (record { 0 = r }) 0 ∷ [])
  taken-goes_on p r u closed (rest, valid) taken =
      let open_cell : Cell = Ptr (record { 0 = own u }) 0 in
      let filled = swapped A sources u r taken keep t ((p ++ open_cell ∷ []) ++ rest) valid in
      let same : map (swap u r) ((p ++ open_cell ∷ []) ++ rest) ≡ (p ++ Ptr (record { 0 = r }) 0 ∷ []) ++ map (swap u r) rest =
      map-append (swap u r) (p ++ open_cell ∷ []) rest
      ∙ ap (λ (v : Word). v ++ map (swap u r) rest) (map-append (swap u r) p (open_cell ∷ []))
      ∙ ap (λ (v : Word). (v ++ map (swap u r) (open_cell ∷ [])) ++ map (swap u r) rest) (swap-closed u r p closed)
      ∙ ap (λ (c : Cell). (p ++ c ∷ []) ++ map (swap u r) rest) (swap-own u r) in
      (map (swap u r) rest, subst (Valid (OrOwn A) keep t) same filled)

  -- A reference that is refused isn't taken as one that stands open there.
  pub open-is-not-taken : (w : Word) (o : ℕ) (r : RefId) (u : ℕ) → All IsClosed w → RefusesAt A keep t w o
      → slice_get (fit w (size_of t)) o ≡ Some (Ptr r 0) → StandsOpen A keep t (take o (fit w (size_of t))) u → ¬ A r.0 u
  open-is-not-taken w o r u closed refuses e stands_open taken =
      let f = fit w (size_of t) in
      let more = taken-goes_on (take o f) r.0 u (All-take IsClosed o f (fit-all IsClosed tt w (size_of t) closed)) stands_open taken in
      refuses.stops (subst (Viable A keep t) (sym (front_more f o (Ptr r 0) e)) more)

  -- A target reference that may begin somewhere is one of the target's.
  pub open-is-leaf : (p : Word) (u : ℕ) → StandsOpen A keep t p u → (leaf : Leaf) × Contains (leaves t) leaf × (leaf.number ≡ u)
  open-is-leaf p u (rest, valid) =
      let open_cell : Cell = Ptr (record { 0 = own u }) 0 in
      let L = IsHeldBy (OrOwn A) t in
      let cells = pointers-related (OrOwn A) keep t ((p ++ open_cell ∷ []) ++ rest) valid in
      let held : L (own u) = (All-middle (IsCellOf L) p open_cell rest cells).0 in
      elim held.2 [
        | inl a ↦ let below = sources (own u) held.0.number a in absurd (omega arith)
        | inr e ↦ (held.0, held.1, omega arith)
      ]
