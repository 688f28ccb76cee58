-- What is valid by gaps and fields in turn is valid by the places of the fields, and the other way round.
use Rattle.std.proofs.Common.{◌≡◌, ℕ, zero, suc, ◌+◌, ◌-◌, ◌<◌, ◌≤◌, ◌⊎◌, inl, inr, ⊎_elim, refl, sym, ◌∙◌, ap, subst, Bool, List, [], ◌∷◌, ◌++◌, map, length, take, drop, get_or, Option, arith, length-append, append_assoc}
use Rattle.std.proofs.lemmas.List.{get_or_append_left, get_or-append-add, take-append-drop, length-take-le}
use Rattle.std.proofs.lemmas.List.Elements.{All-get_or, All-from_get_or}
use Rattle.std.proofs.Math.Seq.{take-append_seam, drop-append_seam}
use Rattle.tm_base.specs.declared.cell.Cell.TheVariants.{Uninit}
use Rattle.tm_base.specs.Cells.{Word, IsFree}
use Rattle.tm_base.specs.Expanded.{Fields, no_fields, field}
use Rattle.tm_base.specs.Layout.{Layout, place_at, places, end_of, size_of, layout_of, field_layouts}
use Rattle.tm_base.specs.Valid.{Valid, FieldsValid}
use Rattle.tm_base.proofs.ValidLemmas.{Valid-length}
use Rattle.tm_laws.specs.SliceLaws.{slice, IsCovered, HoldsFields, HoldsAt}

-- what is covered by fields that stand at a place or behind it isn't before that place
pub covered-from : (packed : Option ℕ) (shift at : ℕ) (ls : List Layout) (i : ℕ) → IsCovered (map (λ p. shift + p) (places packed at ls)) ls i → shift + at ≤ i
unfolding IsCovered
covered-from packed shift at [] i h = absurd h
covered-from packed shift at (l ∷ ls) i (inl h) = omega (arith, h.0)
covered-from packed shift at (l ∷ ls) i (inr h) = let below = covered-from packed shift (place_at packed at l + l.size) ls i h in omega (arith, below)

-- no field ends behind the last one
pub end-from : (packed : Option ℕ) (at : ℕ) (ls : List Layout) → at ≤ end_of packed at ls
end-from packed at [] = omega arith
end-from packed at (l ∷ ls) = let behind = end-from packed (place_at packed at l + l.size) ls in omega (arith, behind)

pub below_or_not : (i n : ℕ) → (i < n) ⊎ (n ≤ i)
below_or_not i zero = inr (omega arith)
below_or_not zero (suc n) = inl (omega arith)
below_or_not (suc i) (suc n) = ⊎_elim (λ h. inl (omega (arith, h))) (λ h. inr (omega (arith, h))) (below_or_not i n)

-- what stands in the middle of a word
middle : (front here behind : Word) (place n : ℕ) → length front ≡ place → length here ≡ n → slice place n (front ++ (here ++ behind)) ≡ here
middle front here behind place n e f =
    let dropped : drop place (front ++ (here ++ behind)) ≡ here ++ behind = subst (λ (k : ℕ). drop k (front ++ (here ++ behind)) ≡ here ++ behind) e (drop-append_seam front (here ++ behind)) in
    rw dropped (subst (λ (k : ℕ). take k (here ++ behind) ≡ here) f (take-append_seam here behind))

-- a cell behind the front of a word
pub cell-behind : (front w : Word) (j : ℕ) (place : ℕ) → length front + j ≡ place → get_or (front ++ w) place Uninit ≡ get_or w j Uninit
cell-behind front w j place e = subst (λ (k : ℕ). get_or (front ++ w) k Uninit ≡ get_or w j Uninit) e (get_or-append-add front w j Uninit)

module _ (A : ℕ → ℕ → Type 0) (keep : Bool) (packed : Option ℕ) (shift : ℕ) where
  abbrev stands : ℕ → Fields → List ℕ
  stands at members = map (λ p. shift + p) (places packed at (field_layouts members))

  -- Behind some cells, so many as to reach the place, the fields are valid in turn: so they hold by their places.
  pub fields-hold : (at : ℕ) (members : Fields) (front w : Word) → length front ≡ shift + at
      → FieldsValid A keep packed at members w → HoldsAt A keep (shift + at) (stands at members) members (front ++ w)
  unfolding Valid layout_of IsCovered HoldsFields
  fields-hold at no_fields front w long free =
      record {
        holds_fields = tt;
        free_between = record {
          free = λ i from below none.
              let all : length (front ++ w) ≡ length front + length w = length-append front w in
              let here : length front + (i - length front) ≡ i = omega (arith, long, from) in
              rw (cell-behind front w (i - length front) i here) (All-get_or IsFree w (i - length front) Uninit (omega (arith, all, long, from, below)) free);
        };
      }
  fields-hold at (field public t rest) front w long (gap, here, others, e, place, free, valid, behind) =
      let l = layout_of t in
      let p = place_at packed at l in
      let size = Valid-length A keep t here valid in
      let front2 = (front ++ gap) ++ here in
      let long1 : length (front ++ gap) ≡ shift + p = length-append front gap ∙ omega (arith, long, place) in
      let long2 : length front2 ≡ shift + (p + size_of t) = length-append (front ++ gap) here ∙ omega (arith, long1, size) in
      let same : front ++ w ≡ front2 ++ others =
      ap (λ (v : Word). front ++ v) e ∙ sym (append_assoc front gap (here ++ others)) ∙ sym (append_assoc (front ++ gap) here others) in
      let same1 : front2 ++ others ≡ (front ++ gap) ++ (here ++ others) = append_assoc (front ++ gap) here others in
      let more = fields-hold (p + size_of t) rest front2 others long2 behind in
      rw same record {
        holds_fields = (rw (same1, middle (front ++ gap) here others (shift + p) (size_of t) long1 size) valid, more.holds_fields);
        free_between = record {
          free = λ i from below none. ⊎_elim
              (λ (before : i < shift + p).
              let j : length front + (i - length front) ≡ i = omega (arith, long, from) in
              let inside : i - length front < length gap = omega (arith, long, place, before, from) in
              let whole : front2 ++ others ≡ front ++ (gap ++ (here ++ others)) = same1 ∙ append_assoc front gap (here ++ others) in
              rw (whole, cell-behind front (gap ++ (here ++ others)) (i - length front) i j, get_or_append_left gap (here ++ others) Uninit (i - length front) inside)
              (All-get_or IsFree gap (i - length front) Uninit inside free))
              (λ (past : shift + p ≤ i). ⊎_elim
              (λ (within : i < (shift + p) + size_of t). absurd (none (inl (past, within))))
              (λ (beyond : (shift + p) + size_of t ≤ i). more.free_between.free i (omega (arith, beyond)) below (λ h. none (inr h)))
              (below_or_not i ((shift + p) + size_of t)))
              (below_or_not i (shift + p));
        };
      }

  -- and the other way round, where the word is long enough
  pub hold-fields : (at : ℕ) (members : Fields) (front w : Word) → length front ≡ shift + at → shift + end_of packed at (field_layouts members) ≤ length (front ++ w)
      → HoldsAt A keep (shift + at) (stands at members) members (front ++ w) → FieldsValid A keep packed at members w
  unfolding Valid layout_of IsCovered HoldsFields
  hold-fields at no_fields front w long room h =
      All-from_get_or IsFree w Uninit (λ j below.
      let all : length (front ++ w) ≡ length front + length w = length-append front w in
      subst IsFree (cell-behind front w j (length front + j) refl) (h.free_between.free (length front + j) (omega (arith, long)) (omega (arith, all, below)) (λ none. none)))
  hold-fields at (field public t rest) front w long room h =
      let l = layout_of t in
      let p = place_at packed at l in
      let ends = end-from packed (p + size_of t) (field_layouts rest) in
      let all : length (front ++ w) ≡ length front + length w = length-append front w in
      let gap = take (p - at) w in
      let left = drop (p - at) w in
      let here = take (size_of t) left in
      let others = drop (size_of t) left in
      let e1 : gap ++ left ≡ w = take-append-drop (p - at) w in
      let e2 : here ++ others ≡ left = take-append-drop (size_of t) left in
      let e : w ≡ gap ++ (here ++ others) = sym (rw e2 e1) in
      let wide : length gap ≡ p - at = length-take-le (p - at) w (omega (arith, all, long, room, ends)) in
      let split : length gap + length left ≡ length w = sym (length-append gap left) ∙ ap length e1 in
      let deep : length here ≡ size_of t = length-take-le (size_of t) left (omega (arith, all, long, room, ends, wide, split)) in
      let front2 = (front ++ gap) ++ here in
      let long1 : length (front ++ gap) ≡ shift + p = length-append front gap ∙ omega (arith, long, wide) in
      let long2 : length front2 ≡ shift + (p + size_of t) = length-append (front ++ gap) here ∙ omega (arith, long1, deep) in
      let same1 : front2 ++ others ≡ (front ++ gap) ++ (here ++ others) = append_assoc (front ++ gap) here others in
      let same : front ++ w ≡ front2 ++ others =
      ap (λ (v : Word). front ++ v) e ∙ sym (append_assoc front gap (here ++ others)) ∙ sym same1 in
      let k = subst (λ (v : Word). HoldsAt A keep (shift + at) (stands at (field public t rest)) (field public t rest) v) same h in
      let inside : slice (shift + p) (size_of t) (front2 ++ others) ≡ here = rw same1 (middle (front ++ gap) here others (shift + p) (size_of t) long1 deep) in (
        gap,
        here,
        others,
        e,
        omega (arith, wide),
        All-from_get_or IsFree gap Uninit (λ j below.
            let before : length front + j < shift + p = omega (arith, long, wide, below) in
            let whole : front2 ++ others ≡ front ++ (gap ++ (here ++ others)) = same1 ∙ append_assoc front gap (here ++ others) in
            let cell : get_or (front2 ++ others) (length front + j) Uninit ≡ get_or gap j Uninit =
            rw (whole, cell-behind front (gap ++ (here ++ others)) j (length front + j) refl) (get_or_append_left gap (here ++ others) Uninit j below) in
            let len2 : length (front2 ++ others) ≡ length front2 + length others = length-append front2 others in
            subst IsFree cell (k.free_between.free (length front + j) (omega (arith, long)) (omega (arith, len2, long2, before)) (⊎_elim
            (λ first. omega (arith, first.0, before))
            (λ later. let from = covered-from packed shift (p + size_of t) (field_layouts rest) (length front + j) later in omega (arith, from, before))))),
        subst (Valid A keep t) inside k.holds_fields.0,
        hold-fields (p + size_of t) rest front2 others long2 (rw same at room) (record {
          holds_fields = k.holds_fields.1;
          free_between = record {
            free = λ i from below none. k.free_between.free i (omega (arith, from)) below (⊎_elim (λ first. omega (arith, first.1, from)) none);
          };
        }),
      )
