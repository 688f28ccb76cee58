-- What two references come to by themselves.
use Rattle.std.proofs.Common.{◌≡◌, ℕ, zero, suc, ◌<◌, ◌≤◌, ◌⊎◌, inl, inr, refl, true, false, List, [], ◌∷◌, length, Option, None, Some, slice_get, arith}
use Rattle.std.specs.Prelude.{is_some}
use Rattle.std.proofs.lemmas.Option.{slice_get_past}
use Rattle.tm_base.specs.declared.answer.LocalRule.{LocalRule}
use Rattle.tm_base.specs.declared.answer.LocalRule.TheVariants.{MoreUnique, TooBig, Alignment, Interior, Lifetime}
use Rattle.tm_base.specs.declared.assume.Assume.{Assume}
use Rattle.tm_base.specs.declared.definition.RefRow.{RefRow}
use Rattle.tm_base.specs.Compatible.{CompatibleTo, IsLocalFault, KeepsAll, MeetsLocally}
use Rattle.tm_base.specs.Reaches.{IsJudged}
use Rattle.tm_base.specs.Tables.{Tables, OnRows}
use Rattle.tm_refs.specs.declared.pointees.Pointee.{Pointee}
use Rattle.tm_refs.specs.declared.standing.Standing.TheVariants.{Holds, Unjudged, Breaks}
use Rattle.tm_refs.specs.Local.{AreJudged}
use Rattle.tm_refs.specs.Pointees.{ArePointees, IsPointeeAnswer, pointee_at}
use Rattle.tm_refs.specs.Rounds.{IsFirst}
use Rattle.tm_refs.specs.Solved.{BreaksFirst}
use Rattle.tm_refs.proofs.PointeeLemmas.{OnRows-gives, OnRows-of, OnRows-rows}

-- a number below the length names an item
row-at : {X : Type 0} (xs : List X) (k : ℕ) → k < length xs → (x : X) × (slice_get xs k ≡ Some x)
row-at [] k below = absurd (omega arith)
row-at (x ∷ xs) zero below = (x, refl)
row-at (x ∷ xs) (suc k) below = row-at xs k (omega arith)

module _ (tables : Tables) (assume : Assume) where
  abbrev Judged : ℕ → ℕ → Type 0
  Judged r t = OnRows (slice_get tables.refs r) (slice_get tables.refs t) (AreJudged tables)

  met-judged : (r t : ℕ) → OnRows (slice_get tables.refs r) (slice_get tables.refs t) (MeetsLocally tables assume) → Judged r t
  met-judged r t h =
      let (source, target, at_r, at_t, met) = OnRows-rows _ _ (MeetsLocally tables assume) h in
      OnRows-of _ _ source target (AreJudged tables) at_r at_t (record { source = met.source; target = met.target })

  -- a pair whose pointees aren't both judged
  pub unjudged-first : (r t : ℕ) → ¬ Judged r t → IsFirst tables assume r t Unjudged
  unfolding CompatibleTo
  unjudged-first r t un = record {
    right = record {
      depth = record { fails = λ h. un (met-judged r t h); first = λ m below. absurd (omega arith) };
      why = λ source target at_r at_t judged. absurd (un (OnRows-of _ _ source target (AreJudged tables) at_r at_t judged));
    };
    settled = λ e h. un (met-judged r t h);
  }

  -- one that keeps all local rules
  pub holds-first : (r t : ℕ) → Judged r t → OnRows (slice_get tables.refs r) (slice_get tables.refs t) (KeepsAll tables assume) → IsFirst tables assume r t Holds
  unfolding CompatibleTo
  holds-first r t judged keeps = record {
    right = record { depth = met; why = λ source target at_r at_t _. OnRows-gives _ _ source target (KeepsAll tables assume) at_r at_t keeps };
    settled = λ e. cc;
  } where
    met : OnRows (slice_get tables.refs r) (slice_get tables.refs t) (MeetsLocally tables assume)
    met =
        let (source, target, at_r, at_t, both) = OnRows-rows _ _ (AreJudged tables) judged in
        OnRows-of _ _ source target (MeetsLocally tables assume) at_r at_t (record {
          source = both.source;
          target = both.target;
          keeps = OnRows-gives _ _ source target (KeepsAll tables assume) at_r at_t keeps;
        })

  all_kept : (source target : RefRow) (rule : LocalRule) → KeepsAll tables assume source target → ¬ IsLocalFault tables assume source target rule
  all_kept source target MoreUnique kept fault = fault.broken kept.more_unique
  all_kept source target TooBig kept fault = fault.broken kept.too_big
  all_kept source target Alignment kept fault = fault.broken kept.alignment
  all_kept source target Interior kept fault = fault.broken kept.interior
  all_kept source target Lifetime kept fault = fault.broken kept.lifetime

  -- one that breaks a local rule first
  pub breaks-first : (r t : ℕ) (rule : LocalRule) → Judged r t → OnRows (slice_get tables.refs r) (slice_get tables.refs t) (λ source target. IsLocalFault tables assume source target rule)
      → IsFirst tables assume r t (Breaks rule)
  unfolding CompatibleTo
  breaks-first r t rule judged fault = record {
    right = record { depth = record { fails = fails; first = λ m below. absurd (omega arith) }; why = why };
    settled = λ e. fails;
  } where
    fails : ¬ OnRows (slice_get tables.refs r) (slice_get tables.refs t) (MeetsLocally tables assume)
    fails h =
        let (source, target, at_r, at_t, met) = OnRows-rows _ _ (MeetsLocally tables assume) h in
        all_kept source target rule met.keeps (OnRows-gives _ _ source target (λ s u. IsLocalFault tables assume s u rule) at_r at_t fault)

    why : OnRows (slice_get tables.refs r) (slice_get tables.refs t) (BreaksFirst tables assume rule)
    why =
        let (source, target, at_r, at_t, both) = OnRows-rows _ _ (AreJudged tables) judged in
        OnRows-of _ _ source target (BreaksFirst tables assume rule) at_r at_t
        (record { judged = both; fault = OnRows-gives _ _ source target (λ s u. IsLocalFault tables assume s u rule) at_r at_t fault })

  is_judged : (found : Option Pointee) (row : RefRow) → IsPointeeAnswer tables assume row.pointee found → is_some found ≡ true → IsJudged tables row.pointee
  is_judged None row answer e = cc
  is_judged (Some pointee) row answer e = answer.judged

  is_unjudged : (found : Option Pointee) (row : RefRow) → IsPointeeAnswer tables assume row.pointee found → is_some found ≡ false → ¬ IsJudged tables row.pointee
  is_unjudged None row answer e = answer
  is_unjudged (Some pointee) row answer e = cc

  module _ (pointees : List (Option Pointee)) (are : ArePointees tables assume pointees) (r t : ℕ) where
    -- both are found
    pub judged-found : r < length tables.refs → t < length tables.refs → is_some (pointee_at pointees r) ≡ true → is_some (pointee_at pointees t) ≡ true → Judged r t
    judged-found below_r below_t e f =
        let (source, at_r) = row-at tables.refs r below_r in
        let (target, at_t) = row-at tables.refs t below_t in
        OnRows-of _ _ source target (AreJudged tables) at_r at_t (record {
          source = is_judged (pointee_at pointees r) source (are.each r source at_r) e;
          target = is_judged (pointee_at pointees t) target (are.each t target at_t) f;
        })

    -- one isn't
    pub unfound-unjudged : (is_some (pointee_at pointees r) ≡ false) ⊎ (is_some (pointee_at pointees t) ≡ false) → ¬ Judged r t
    unfound-unjudged which judged = go which (OnRows-rows _ _ (AreJudged tables) judged) where
      go : (is_some (pointee_at pointees r) ≡ false) ⊎ (is_some (pointee_at pointees t) ≡ false)
          → (source : RefRow) × (target : RefRow) × (slice_get tables.refs r ≡ Some source) × (slice_get tables.refs t ≡ Some target) × AreJudged tables source target → ⊥
      go (inl e) (source, target, at_r, at_t, both) = is_unjudged (pointee_at pointees r) source (are.each r source at_r) e both.source
      go (inr e) (source, target, at_r, at_t, both) = is_unjudged (pointee_at pointees t) target (are.each t target at_t) e both.target

  -- no pair has a number that names no reference
  pub past-unjudged : (r t : ℕ) → (length tables.refs ≤ r) ⊎ (length tables.refs ≤ t) → ¬ Judged r t
  past-unjudged r t which judged = go which (OnRows-rows _ _ (AreJudged tables) judged) where
    go : (length tables.refs ≤ r) ⊎ (length tables.refs ≤ t)
        → (source : RefRow) × (target : RefRow) × (slice_get tables.refs r ≡ Some source) × (slice_get tables.refs t ≡ Some target) × AreJudged tables source target → ⊥
    go (inl past) (source, target, at_r, at_t, both) = let none = slice_get_past tables.refs r past in cc
    go (inr past) (source, target, at_r, at_t, both) = let none = slice_get_past tables.refs t past in cc
