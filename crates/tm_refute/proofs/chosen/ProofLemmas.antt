-- Why two references fail first at a depth: locally at 0, and else by a value that goes neither forward nor back.
use Rattle.std.proofs.Common.{◌≡◌, ℕ, zero, suc, ◌<◌, inl, inr, refl, Bool, true, false, None, Some, slice_get, arith}
use Rattle.std.proofs.lemmas.Bool.{both_ways}
use Rattle.tm_base.specs.declared.answer.LocalRule.{LocalRule}
use Rattle.tm_base.specs.declared.assume.Assume.{Assume}
use Rattle.tm_base.specs.declared.definition.RefRow.{RefRow}
use Rattle.tm_base.specs.Compatible.{CompatibleTo, IsLocalFault, MeetsLocally, MeetsOver}
use Rattle.tm_base.specs.Tables.{Tables, pointee_in}
use Rattle.tm_base.specs.Transmutes.{EveryWordFits}
use Rattle.tm_base.proofs.ValidLemmas.{Valid-grows}
use Rattle.tm_refs.specs.Local.{AreJudged}
use Rattle.tm_refs.specs.Solved.{BreaksFirst, FailsFirstAt, IsWhyAnswer}
use Rattle.tm_refs.proofs.PointeeLemmas.{OnRows-gives, OnRows-of}
use Rattle.tm_refute.specs.Chosen.{HoldsBelow}

module _ (tables : Tables) (assume : Assume) (r t : ℕ) (source target : RefRow) (at_r : slice_get tables.refs r ≡ Some source) (at_t : slice_get tables.refs t ≡ Some target) where
  -- the rule that is told is the first that is broken
  pub fault-told : (rule : LocalRule) → IsWhyAnswer tables assume r t (Some rule) → IsLocalFault tables assume source target rule
  fault-told rule why = (OnRows-gives (slice_get tables.refs r) (slice_get tables.refs t) source target (BreaksFirst tables assume rule) at_r at_t why).fault

  -- one is told where they fail at 0
  pub some-told : AreJudged tables source target → FailsFirstAt tables assume r t 0 → ¬ IsWhyAnswer tables assume r t None
  unfolding CompatibleTo
  some-told judged first none =
      first.fails (OnRows-of (slice_get tables.refs r) (slice_get tables.refs t) source target (MeetsLocally tables assume) at_r at_t
      (record { source = judged.source; target = judged.target; keeps = none source target at_r at_t judged }))

  abbrev Forward : ℕ → Type 0
  Forward depth = EveryWordFits (HoldsBelow tables assume (Some depth)) assume.safety (pointee_in tables source) (pointee_in tables target)

  abbrev Back : ℕ → Type 0
  Back depth = EveryWordFits (HoldsBelow tables assume (Some depth)) assume.safety (pointee_in tables target) (pointee_in tables source)

  module _ (unassumed : assume.validity ≡ false) where
    -- what fails at a depth above 0 fails forward or back
    pub fails-some_way : (depth : ℕ) → 0 < depth → FailsFirstAt tables assume r t depth → Forward depth → ¬ (target.mutable ≡ true → Back depth)
    unfolding CompatibleTo
    fails-some_way zero some first forward back = absurd (omega arith)
    fails-some_way (suc n) some first forward back =
        first.fails (OnRows-of (slice_get tables.refs r) (slice_get tables.refs t) source target (MeetsOver tables assume (CompatibleTo tables assume n)) at_r at_t
        (record {
          meets = OnRows-gives (slice_get tables.refs r) (slice_get tables.refs t) source target (MeetsLocally tables assume) at_r at_t (first.first zero (omega arith));
          forward = inr (inl (unassumed, λ w value. Valid-grows (HoldsBelow tables assume (Some (suc n))) (CompatibleTo tables assume n) assume.safety assume.safety onward (λ k. k) (pointee_in tables target) _ (forward w value)));
          backward = λ mutable. inr (inl (unassumed, λ w value. Valid-grows (HoldsBelow tables assume (Some (suc n))) (CompatibleTo tables assume n) assume.safety assume.safety onward (λ k. k) (pointee_in tables source) _ (back mutable w value)));
        })) where
          onward : (x y : ℕ) → HoldsBelow tables assume (Some (suc n)) x y → CompatibleTo tables assume n x y
          onward x y h = h n (omega arith)

    -- so where it doesn't fail forward the target is `&mut`
    pub is-mutable : (depth : ℕ) → 0 < depth → FailsFirstAt tables assume r t depth → Forward depth → target.mutable ≡ true
    is-mutable depth some first forward = go target.mutable refl where
      go : (b : Bool) → target.mutable ≡ b → target.mutable ≡ true
      go true e = e
      go false e = absurd (fails-some_way depth some first forward (λ mutable. absurd (both_ways target.mutable e mutable)))
