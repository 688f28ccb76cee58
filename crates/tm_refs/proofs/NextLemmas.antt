-- From one round to the next: what has to be looked at again, and when nothing has.
use Rattle.std.proofs.Common.{◌≡◌, ℕ, suc, ◌+◌, ◌<◌, ◌≤◌, ◌⊎◌, inl, inr, refl, sym, ◌∙◌, ap, subst, Bool, true, false, List, [], length, Option, None, Some, take, get_or, arith}
use Rattle.std.specs.Prelude.{is_none, MatchOption}
use Rattle.std.specs.List.{Contains, filter}
use Rattle.std.proofs.lemmas.Bool.{and_from, both_ways, or_left, or_right}
use Rattle.std.proofs.lemmas.List.{take_all, take_more}
use Rattle.std.proofs.lemmas.List.Elements.{Contains-push_cases}
use Rattle.tm_base.specs.declared.assume.Assume.{Assume}
use Rattle.tm_base.specs.Compatible.{CompatibleTo, MeetsOver}
use Rattle.tm_base.specs.Tables.{Tables, pointee_in}
use Rattle.tm_base.proofs.CompatibleLemmas.{CompatibleTo-falls}
use Rattle.tm_refs.specs.declared.pair.Pair.{Pair}
use Rattle.tm_refs.specs.declared.standing.Standing.{Standing}
use Rattle.tm_refs.specs.Looks.{all_pairs, depends_on, depends_on_some, pair_of, row_is_mutable, row_leads_to}
use Rattle.tm_refs.specs.Rounds.{AgreesTo, AreLost, IsEnough, IsLook, IsRound, IsSettled, IsSolvedTable, IsStanding, IsTable}
use Rattle.tm_refs.specs.Solved.{FailsFirstAt}
use Rattle.tm_refs.specs.Standings.{depth_of, is_held, standing_in}
use Rattle.tm_refs.proofs.MoveLemmas.{Transmutes-moves}
use Rattle.tm_refs.proofs.PointeeLemmas.{OnRows-of, OnRows-rows}
use Rattle.tm_refs.proofs.RoundLemmas.{To-lesser, held-agrees, solved-depth, still-Compatible}
use Rattle.tm_refs.proofs.StepLemmas.{agreed-listed}
use Rattle.tm_refs.proofs.ListLemmas.{any-at, filter-at}

module _ (tables : Tables) (assume : Assume) where
  -- a table that is settled at one level is at the next
  pub settled-next : (n : ℕ) (rows : List (List Standing)) → IsSettled tables assume n rows → IsSettled tables assume (suc n) rows
  settled-next n rows settled = record { fails = λ pair h deeper. settled.fails pair h (CompatibleTo-falls tables assume n pair.source.0 pair.target.0 deeper) }

  pub none-lost : (rows : List (List Standing)) → AreLost tables assume rows rows []
  none-lost rows = record { held = λ pair h. h; listed = λ pair h. inl h; gone_with = λ weight. omega arith }

  -- what is compatible to the level is held
  agreed-held : (n : ℕ) (rows : List (List Standing)) → IsSettled tables assume n rows → (pair : Pair) → AgreesTo tables assume n pair → is_held rows pair ≡ true
  agreed-held n rows settled pair h = go (is_held rows pair) refl where
    go : (b : Bool) → is_held rows pair ≡ b → is_held rows pair ≡ true
    go true e = e
    go false e = absurd (settled.fails pair e h)

  -- what is asked so far
  abbrev pub HavePassed : ℕ → List (List Standing) → List Pair → Type 0
  HavePassed n rows asked = (pair : Pair) → Contains asked pair → is_held rows pair ≡ true → AgreesTo tables assume (suc n) pair

  pub nothing-passed : (n : ℕ) (rows : List (List Standing)) → HavePassed n rows []
  nothing-passed n rows pair (k, below, e) held = absurd (omega arith)

  pub passed-more : (n : ℕ) (before after : List (List Standing)) (asked : List Pair) (i : ℕ) (d : Pair) (lost more : List Pair) → i < length asked
      → IsLook tables assume n before after (get_or asked i d) lost more → HavePassed n before (take i asked) → HavePassed n after (take (i + 1) asked)
  passed-more n before after asked i d lost more below look so_far pair at held =
      elim (Contains-push_cases (take i asked) (get_or asked i d) pair (subst (λ (ps : List Pair). Contains ps pair) (take_more asked i d below) at)) [
        | inl earlier ↦ so_far pair earlier (look.held pair held)
        | inr same ↦ subst (λ (p : Pair). AgreesTo tables assume (suc n) p) same (look.passed (subst (λ (p : Pair). is_held after p ≡ true) (sym same) held))
      ]

  pub passed-all : (n : ℕ) (rows : List (List Standing)) (asked : List Pair) (i : ℕ) → length asked ≤ i → HavePassed n rows (take i asked) → HavePassed n rows asked
  passed-all n rows asked i past so_far = subst (λ (ps : List Pair). HavePassed n rows ps) (take_all i asked past) so_far

  -- a round is done once all that was asked is
  pub round-done : (n : ℕ) (before after : List (List Standing)) (asked lost : List Pair) → IsEnough tables assume n before asked
      → IsTable tables assume n after → IsSettled tables assume (suc n) after → AreLost tables assume before after lost
      → ((pair : Pair) → Contains asked pair → is_held after pair ≡ true → AgreesTo tables assume (suc n) pair)
      → IsRound tables assume n before after lost
  round-done n before after asked lost enough table settled losses passed = record {
    table = record { right = λ r t. deeper r t (standing_in after r t) refl (table.right r t) };
    settled = settled;
    losses = losses;
  } where
    holds-next : (pair : Pair) → is_held after pair ≡ true → AgreesTo tables assume (suc n) pair
    holds-next pair h = elim (enough.others pair (losses.held pair h)) [ inl at ↦ passed pair at h | inr deep ↦ deep ]

    deeper : (r t : ℕ) (s : Standing) → standing_in after r t ≡ s → IsStanding tables assume n r t s → IsStanding tables assume (suc n) r t s
    deeper r t s e is = record {
      depth = by (depth_of s) (ap (λ x. is_none (depth_of x)) e) is.depth;
      why = is.why;
    } where
      by : (depth : Option ℕ) → is_held after (pair_of r t) ≡ is_none depth
          → MatchOption depth (CompatibleTo tables assume n r t) (λ m. FailsFirstAt tables assume r t m)
          → MatchOption depth (CompatibleTo tables assume (suc n) r t) (λ m. FailsFirstAt tables assume r t m)
      by None h k = holds-next (pair_of r t) h
      by (Some m) h k = k

  module _ (n : ℕ) (before after : List (List Standing)) (lost : List Pair) (settled : IsSettled tables assume n before) (round : IsRound tables assume n before after lost) where
    -- what was compatible still is, or is one of the lost
    onward : (x y : ℕ) → CompatibleTo tables assume n x y → CompatibleTo tables assume (suc n) x y ⊎ Contains lost (pair_of x y)
    onward x y h = elim (round.losses.listed (pair_of x y) (agreed-held n before settled (pair_of x y) h)) [
      | inl held ↦ inl (held-agrees tables assume (suc n) after round.table (pair_of x y) held)
      | inr at ↦ inr at
    ]

    -- a pair that depends on none of the lost is compatible one level deeper
    independent : (pair : Pair) → depends_on_some tables lost pair ≡ false → AgreesTo tables assume (suc n) pair → AgreesTo tables assume (suc (suc n)) pair
    unfolding CompatibleTo
    independent pair none h =
        let (source, target, at_r, at_t, over) = OnRows-rows _ _ (MeetsOver tables assume (CompatibleTo tables assume n)) h in
        OnRows-of _ _ source target (MeetsOver tables assume (CompatibleTo tables assume (suc n))) at_r at_t (record {
          meets = over.meets;
          forward =
              Transmutes-moves (CompatibleTo tables assume n) (CompatibleTo tables assume (suc n)) assume (pointee_in tables source) (pointee_in tables target)
              (λ x y leaf_x leaf_y. kept x y (or_left _ _ (and_from _ _ (ap (λ row. row_leads_to tables row x) at_r ∙ leaf_x) (ap (λ row. row_leads_to tables row y) at_t ∙ leaf_y)))) over.forward;
          backward =
              λ mutable. Transmutes-moves (CompatibleTo tables assume n) (CompatibleTo tables assume (suc n)) assume (pointee_in tables target) (pointee_in tables source)
              (λ x y leaf_x leaf_y. kept x y (or_right _ _ (and_from _ _ (ap row_is_mutable at_t ∙ mutable)
              (and_from _ _ (ap (λ row. row_leads_to tables row x) at_t ∙ leaf_x) (ap (λ row. row_leads_to tables row y) at_r ∙ leaf_y))))) (over.backward mutable);
        }) where
          kept : (x y : ℕ) → depends_on tables pair (pair_of x y) ≡ true → CompatibleTo tables assume n x y → CompatibleTo tables assume (suc n) x y
          kept x y depends k = elim (onward x y k) [
            | inl deeper ↦ deeper
            | inr (i, below, e) ↦ absurd (both_ways _ none (any-at (depends_on tables pair) lost (pair_of x y) i below e depends))
          ]

    -- so the pairs that depend on the lost are enough to look at next
    pub next-enough : IsEnough tables assume (suc n) after (filter (depends_on_some tables lost) (all_pairs tables))
    next-enough = record { others = λ pair held. go pair (held-agrees tables assume (suc n) after round.table pair held) (depends_on_some tables lost pair) refl } where
      go : (pair : Pair) → AgreesTo tables assume (suc n) pair → (b : Bool) → depends_on_some tables lost pair ≡ b
          → Contains (filter (depends_on_some tables lost) (all_pairs tables)) pair ⊎ AgreesTo tables assume (suc (suc n)) pair
      go pair h true e = let (k, below, at) = agreed-listed tables assume (suc n) pair h in inl (filter-at (depends_on_some tables lost) (all_pairs tables) pair k below at e)
      go pair h false e = inr (independent pair e h)

    -- where nothing was lost, the table is solved
    pub still-solved : lost ≡ [] → IsSolvedTable tables assume after
    still-solved none = record {
      depth = solved-depth tables assume (suc n) after round.table (λ pair held.
          still-Compatible tables assume n still pair.source.0 pair.target.0
          (To-lesser tables assume n (suc n) pair.source.0 pair.target.0 (omega arith) (held-agrees tables assume (suc n) after round.table pair held)));
      why = λ r t. (round.table.right r t).why;
    } where
      still : (x y : ℕ) → CompatibleTo tables assume n x y → CompatibleTo tables assume (suc n) x y
      still x y h = elim (onward x y h) [
        | inl deeper ↦ deeper
        | inr at ↦ absurd (nowhere (subst (λ (ps : List Pair). Contains ps (pair_of x y)) none at))
      ] where
        nowhere : Contains [] (pair_of x y) → ⊥
        nowhere (k, below, e) = omega arith

  -- all pairs are enough to look at first
  pub first-enough : (n : ℕ) (rows : List (List Standing)) (asked : List Pair) → IsTable tables assume n rows → asked ≡ all_pairs tables → IsEnough tables assume n rows asked
  first-enough n rows asked table e = record {
    others = λ pair held. inl (subst (λ (ps : List Pair). Contains ps pair) (sym e) (agreed-listed tables assume n pair (held-agrees tables assume n rows table pair held)));
  }
