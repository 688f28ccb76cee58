-- What a look at a pair makes of the table.
use Rattle.std.proofs.Common.{◌≡◌, ℕ, suc, ◌+◌, ◌⊎◌, inl, inr, refl, sym, ◌∙◌, ap, subst, Bool, true, false, ◌&&◌, not, cond, List, [], ◌∷◌, ◌++◌, arith}
use Rattle.std.specs.Prelude.{◌==◌, is_none}
use Rattle.std.specs.List.{Contains}
use Rattle.std.proofs.lemmas.Bool.{and_parts, both_ways, cond_both, eqb-true, eq-eqb, and_from}
use Rattle.std.proofs.lemmas.List.Elements.{Contains-append_left, Contains-push}
use Rattle.std.proofs.lemmas.List.Sums.{sum_by_push}
use Rattle.tm_base.specs.declared.assume.Assume.{Assume}
use Rattle.tm_base.specs.declared.cell.RefId.{RefId}
use Rattle.tm_base.specs.Compatible.{MeetsLocally}
use Rattle.tm_base.specs.Tables.{Tables}
use Rattle.tm_refs.specs.declared.pair.Pair.{Pair}
use Rattle.tm_refs.specs.declared.standing.Standing.{Standing}
use Rattle.tm_refs.specs.declared.standing.Standing.TheVariants.{Fails}
use Rattle.tm_refs.specs.Looks.{all_pairs}
use Rattle.tm_refs.specs.Rounds.{AgreesTo, AreLost, IsLook, IsSettled, IsStanding, IsTable}
use Rattle.tm_refs.specs.Standings.{depth_of, is_held, standing_after, standing_in}
use Rattle.tm_refs.proofs.PointeeLemmas.{OnRows-gives}
use Rattle.tm_refs.proofs.RoundLemmas.{To-lesser, held-agrees}
use Rattle.tm_refs.proofs.SumLemmas.{sum-gains}
use Rattle.tm_refs.proofs.StepLemmas.{agreed-listed, meets}

same_id : (a b : RefId) → a.0 ≡ b.0 → a ≡ b
same_id a b e = ap (λ (n : ℕ). let r : RefId = record { 0 = n } in r) e

same_pair : (p q : Pair) → p.source.0 ≡ q.source.0 → p.target.0 ≡ q.target.0 → p ≡ q
same_pair p q e f =
    ap (λ (r : RefId). let pair : Pair = record { source = r; target = p.target } in pair) (same_id p.source q.source e)
    ∙ ap (λ (t : RefId). let pair : Pair = record { source = q.source; target = t } in pair) (same_id p.target q.target f)

module _ (tables : Tables) (assume : Assume) (n : ℕ) (rows : List (List Standing)) (table : IsTable tables assume n rows) where
  -- one pair is lost
  module _ (pair : Pair) (held : is_held rows pair ≡ true) (fails : ¬ AgreesTo tables assume (suc n) pair) (after : List (List Standing))
      (changed : (r t : ℕ) → standing_in after r t ≡ standing_after rows pair (n + 1) r t) where
    agreed : AgreesTo tables assume n pair
    agreed = held-agrees tables assume n rows table pair held

    -- it stands as it should
    lost-standing : IsStanding tables assume n pair.source.0 pair.target.0 (Fails (n + 1))
    lost-standing = record {
      depth = record {
        fails = λ h. fails (subst (λ (m : ℕ). AgreesTo tables assume m pair) (omega arith) h);
        first = λ m below. To-lesser tables assume m n pair.source.0 pair.target.0 (omega arith) agreed;
      };
      why = λ source target at_r at_t judged. (OnRows-gives _ _ source target (MeetsLocally tables assume) at_r at_t (meets tables assume n pair agreed)).keeps;
    }

    either : (r t : ℕ) (P : Standing → Type 0) → (r ≡ pair.source.0 → t ≡ pair.target.0 → P (Fails (n + 1))) → P (standing_in rows r t) → P (standing_in after r t)
    either r t P lost kept =
        subst P (sym (changed r t))
        (cond_both ((r == pair.source.0) && (t == pair.target.0)) (Fails (n + 1)) (standing_in rows r t) P
        (λ both. let (e, f) = and_parts (r == pair.source.0) (t == pair.target.0) both in lost (eqb-true r pair.source.0 e) (eqb-true t pair.target.0 f))
        (λ _. kept))

    pub lost-table : IsTable tables assume n after
    lost-table = record {
      right =
          λ r t. either r t (IsStanding tables assume n r t)
          (λ e f. subst (λ (k : ℕ). IsStanding tables assume n k t (Fails (n + 1))) (sym e) (subst (λ (k : ℕ). IsStanding tables assume n pair.source.0 k (Fails (n + 1))) (sym f) lost-standing))
          (table.right r t);
    }

    -- what is held still was held
    pub lost-held : (q : Pair) → is_held after q ≡ true → is_held rows q ≡ true
    lost-held q = either q.source.0 q.target.0 (λ s. is_none (depth_of s) ≡ true → is_held rows q ≡ true) (λ e f h. cc) (λ h. h)

    -- what was held still is, but for this pair
    pub held-lost : (q : Pair) → is_held rows q ≡ true → (is_held after q ≡ true) ⊎ (pair ≡ q)
    held-lost q h =
        either q.source.0 q.target.0 (λ s. (is_none (depth_of s) ≡ true) ⊎ (pair ≡ q)) (λ e f. inr (same_pair pair q (sym e) (sym f))) (inl h)

    -- and this one isn't
    itself-lost : is_held after pair ≡ false
    itself-lost =
        ap (λ (s : Standing). is_none (depth_of s)) (changed pair.source.0 pair.target.0
        ∙ ap (λ (b : Bool). cond b (Fails (n + 1)) (standing_in rows pair.source.0 pair.target.0))
        (and_from _ _ (eq-eqb pair.source.0 pair.source.0 refl) (eq-eqb pair.target.0 pair.target.0 refl)))

    unheld : (b : Bool) (q : Pair) → is_held rows q ≡ b → is_held after q ≡ false → (b ≡ false) ⊎ (pair ≡ q)
    unheld false q e h = inl refl
    unheld true q e h = elim (held-lost q e) [ inl k ↦ absurd (both_ways _ h k) | inr same ↦ inr same ]

    pub lost-settled : IsSettled tables assume (suc n) rows → IsSettled tables assume (suc n) after
    lost-settled settled = record {
      fails = λ q h. elim (unheld (is_held rows q) q refl h) [ inl e ↦ settled.fails q e | inr same ↦ subst (λ (x : Pair). ¬ AgreesTo tables assume (suc n) x) same fails ];
    }

    rises : (q : Pair) → not (is_held rows q) ≡ true → not (is_held after q) ≡ true
    rises q = go (is_held rows q) (is_held after q) refl refl where
      go : (a b : Bool) → is_held rows q ≡ a → is_held after q ≡ b → not a ≡ true → not b ≡ true
      go a false e f h = refl
      go false true e f h = absurd (both_ways (is_held rows q) e (lost-held q f))
      go true true e f h = h

    pub lost-more : (before : List (List Standing)) (lost : List Pair) → AreLost tables assume before rows lost → AreLost tables assume before after (lost ++ pair ∷ [])
    lost-more before lost losses = record {
      held = λ q h. losses.held q (lost-held q h);
      listed = λ q h. elim (losses.listed q h) [
        | inl k ↦ elim (held-lost q k) [ inl m ↦ inl m | inr same ↦ inr (subst (λ (x : Pair). Contains (lost ++ pair ∷ []) x) same (Contains-push lost pair)) ]
        | inr at ↦ inr (Contains-append_left lost (pair ∷ []) q at)
      ];
      gone_with = λ weight.
          omega (
            arith,
            losses.gone_with weight,
            sum_by_push weight lost pair,
            sum-gains weight (λ q. not (is_held rows q)) (λ q. not (is_held after q)) rises (all_pairs tables) pair (agreed-listed tables assume n pair agreed) (ap not held) (ap not itself-lost),
          );
    }

  -- a pair that isn't held is left
  pub look-left : (pair : Pair) (lost : List Pair) → IsSettled tables assume (suc n) rows → is_held rows pair ≡ false → IsLook tables assume n rows rows pair lost lost
  look-left pair lost settled e = record {
    table = table;
    settled = settled;
    held = λ other h. h;
    passed = λ h. absurd (both_ways _ e h);
    losses = λ start h. h;
  }

  -- one that goes together stays
  pub look-passed : (pair : Pair) (lost : List Pair) → IsSettled tables assume (suc n) rows → AgreesTo tables assume (suc n) pair → IsLook tables assume n rows rows pair lost lost
  look-passed pair lost settled h = record { table = table; settled = settled; held = λ other k. k; passed = λ _. h; losses = λ start k. k }

  -- one that doesn't is lost
  pub look-lost : (pair : Pair) → is_held rows pair ≡ true → ¬ AgreesTo tables assume (suc n) pair → (after : List (List Standing))
      → ((r t : ℕ) → standing_in after r t ≡ standing_after rows pair (n + 1) r t) → (lost more : List Pair) → more ≡ lost ++ pair ∷ [] → IsSettled tables assume (suc n) rows
      → IsLook tables assume n rows after pair lost more
  look-lost pair held fails after changed lost more pushed settled = record {
    table = lost-table pair held fails after changed;
    settled = lost-settled pair held fails after changed settled;
    held = lost-held pair held fails after changed;
    passed = λ h. absurd (both_ways _ (itself-lost pair held fails after changed) h);
    losses = λ start h. subst (λ (ps : List Pair). AreLost tables assume start after ps) (sym pushed) (lost-more pair held fails after changed start lost h);
  }
