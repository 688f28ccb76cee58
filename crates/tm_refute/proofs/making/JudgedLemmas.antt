-- Which references have judged pointees: one more, and all of them.
use Rattle.std.proofs.Common.{◌≡◌, ℕ, ◌+◌, ◌<◌, ◌≤◌, ◌⊎◌, ◌↔◌, inl, inr, sym, ◌∙◌, ap, subst, Bool, false, IsTrue, List, [], ◌∷◌, ◌++◌, length, Some, slice_get, slice_index_or, arith}
use Rattle.std.proofs.lemmas.Bool.{cases_lt}
use Rattle.std.proofs.lemmas.List.{get_or_append_left}
use Rattle.std.proofs.lemmas.Option.{slice_get_within}
use Rattle.std.proofs.Math.Seq.{get_or-append_seam}
use Rattle.tm_base.specs.declared.definition.RefRow.{RefRow}
use Rattle.tm_base.specs.Reaches.{IsJudged}
use Rattle.tm_base.specs.Tables.{Tables}
use Rattle.tm_refute.specs.Judged.{AreJudgedRefs, judged_at}

module _ (tables : Tables) where
  -- so it is of the first so many references
  abbrev AreJudgedUntil : ℕ → List Bool → Type 0
  AreJudgedUntil i judged = (r : ℕ) (row : RefRow) → r < i → slice_get tables.refs r ≡ Some row → IsTrue (judged_at judged r) ↔ IsJudged tables row.pointee

  pub judged-more : (i : ℕ) (row : RefRow) (old new : List Bool) (judged : Bool) → slice_get tables.refs i ≡ Some row → length old ≡ i → new ≡ old ++ judged ∷ []
      → IsTrue judged ↔ IsJudged tables row.pointee → AreJudgedUntil i old → AreJudgedUntil (i + 1) new
  judged-more i row old new judged at count pushed answer until r other below e = go (cases_lt r i) where
    go : (r < i) ⊎ (i ≤ r) → IsTrue (judged_at new r) ↔ IsJudged tables other.pointee
    go (inl less) =
        subst (λ (b : Bool). IsTrue b ↔ IsJudged tables other.pointee)
        (sym (ap (λ bs. slice_index_or bs r false) pushed ∙ get_or_append_left old (judged ∷ []) false r (omega arith))) (until r other less e)
    go (inr past) =
        let here : i ≡ r = omega arith in
        let same : row ≡ other = cc (at, subst (λ (k : ℕ). slice_get tables.refs k ≡ Some other) (sym here) e) in
        let place : r ≡ length old = omega arith in
        subst (λ (b : Bool). IsTrue b ↔ IsJudged tables other.pointee)
        (sym (ap (λ bs. slice_index_or bs r false) pushed ∙ ap (λ (k : ℕ). slice_index_or (old ++ judged ∷ []) k false) place ∙ get_or-append_seam old judged [] false))
        (subst (λ (it : RefRow). IsTrue judged ↔ IsJudged tables it.pointee) same answer)

  -- all of them
  pub judged-all : (i : ℕ) (judged : List Bool) → length tables.refs ≤ i → AreJudgedUntil i judged → AreJudgedRefs tables judged
  judged-all i judged past until = record { each = λ r row at. let inside = slice_get_within tables.refs r row at in until r row (omega arith) at }
