-- An entry holds exactly where its references are there, with judged pointees, and fail as it says; a refutation,
-- where its entries do.
use Rattle.std.proofs.Common.{◌≡◌, ℕ, zero, suc, ◌<◌, ◌↔◌, sym, subst, Bool, true, false, IsTrue, List, Some, None, slice_get, arith}
use Rattle.std.specs.List.{All}
use Rattle.tm_base.specs.declared.ask.Ask.{Ask}
use Rattle.tm_base.specs.declared.assume.Assume.{Assume}
use Rattle.tm_base.specs.declared.definition.RefRow.{RefRow}
use Rattle.tm_base.specs.Answers.{AreJudged}
use Rattle.tm_base.specs.Reaches.{IsJudged}
use Rattle.tm_base.specs.Rules.{source, target}
use Rattle.tm_base.specs.Tables.{Tables, pointee_in}
use Rattle.tm_refs.proofs.PointeeLemmas.{OnRows-gives, OnRows-of}
use Rattle.tm_refute.specs.declared.refutation.Entry.{Entry}
use Rattle.tm_refute.specs.declared.refutation.Piece.{Piece}
use Rattle.tm_refute.specs.declared.refutation.Proof.{Proof}
use Rattle.tm_refute.specs.declared.refutation.Proof.TheVariants.{Forward, Reverse}
use Rattle.tm_refute.specs.declared.refutation.Refutation.{Refutation}
use Rattle.tm_refute.specs.Refutes.{Breaks, FailsAt, Holds, IsShown, Refutes}

above : (depth : ℕ) → ¬ (depth ≡ 0) → 0 < depth
above zero some = absurd (some (omega arith))
above (suc n) some = omega arith

module _ (tables : Tables) (assume : Assume) (entries : List Entry) where
  module _ (depth : ℕ) (some : ¬ (depth ≡ 0)) (r t : RefRow) (proof : Proof) (piece : Piece) (b : Bool) where
    pub forward-shown : proof ≡ Forward piece → IsTrue b ↔ Breaks tables assume entries (Some depth) (pointee_in tables r) (pointee_in tables t) piece → IsTrue b ↔ IsShown tables assume entries depth proof r t
    forward-shown e breaks =
        subst (λ (p : Proof). IsTrue b ↔ IsShown tables assume entries depth p r t) (sym e) (λ h. (above depth some, breaks.0 h), λ (some, h). breaks.1 h)

    pub reverse-shown : proof ≡ Reverse piece → t.mutable ≡ true → IsTrue b ↔ Breaks tables assume entries (Some depth) (pointee_in tables t) (pointee_in tables r) piece → IsTrue b ↔ IsShown tables assume entries depth proof r t
    reverse-shown e mutable breaks =
        subst (λ (p : Proof). IsTrue b ↔ IsShown tables assume entries depth p r t) (sym e) (λ h. (above depth some, mutable, breaks.0 h), λ (some, m, h). breaks.1 h)

  pub holds-from : (entry : Entry) (r t : RefRow) → slice_get tables.refs entry.source.0 ≡ Some r → slice_get tables.refs entry.target.0 ≡ Some t
      → IsJudged tables r.pointee → IsJudged tables t.pointee
      → (b : Bool) → IsTrue b ↔ IsShown tables assume entries entry.depth entry.proof r t → IsTrue b ↔ Holds tables assume entries entry
  holds-from entry r t at_r at_t judged_r judged_t b shown =
      let P : RefRow → RefRow → Type 0 = FailsAt tables assume entries entry.depth entry.proof in (
        λ h. OnRows-of (slice_get tables.refs entry.source.0) (slice_get tables.refs entry.target.0) r t P at_r at_t (record { source = judged_r; target = judged_t; shown = shown.0 h }),
        λ h. shown.1 (OnRows-gives (slice_get tables.refs entry.source.0) (slice_get tables.refs entry.target.0) r t P at_r at_t h).shown,
      )

pub refutes-from : (tables : Tables) (ask : Ask) (x : Refutation) → ask.assume.validity ≡ false → AreJudged tables ask
    → (entries : List Entry) → entries ≡ x.entries → Breaks tables ask.assume entries None (source tables ask) (target tables ask) x.top
    → (b : Bool) → IsTrue b ↔ All (Holds tables ask.assume entries) entries → IsTrue b ↔ Refutes tables ask x
refutes-from tables ask x unassumed judged entries e top b all = (
  λ h. record {
    unassumed = unassumed;
    judged = judged;
    top = subst (λ (es : List Entry). Breaks tables ask.assume es None (source tables ask) (target tables ask) x.top) e top;
    entries = subst (λ (es : List Entry). All (Holds tables ask.assume es) es) e (all.0 h);
  },
  λ r. all.1 (subst (λ (es : List Entry). All (Holds tables ask.assume es) es) (sym e) r.entries),
)
