-- What a refutation shows: by induction on the depth no entry's references are compatible to it, and so the
-- top's word is one that the target doesn't take.
use Rattle.std.proofs.Common.{◌≡◌, ℕ, zero, suc, ◌+◌, ◌-◌, ◌<◌, ◌≤◌, inl, inr, sym, subst, false, List, length, drop, Option, Some, None, slice_get, slice_index_or, arith}
use Rattle.std.specs.Prelude.{All}
use Rattle.std.proofs.lemmas.List.{take-append-drop}
use Rattle.tm_base.specs.declared.ask.Ask.{Ask}
use Rattle.tm_base.specs.declared.assume.Assume.{Assume}
use Rattle.tm_base.specs.declared.definition.RefRow.{RefRow}
use Rattle.tm_base.specs.declared.answer.LocalRule.{LocalRule}
use Rattle.tm_base.specs.declared.answer.LocalRule.TheVariants.{MoreUnique, TooBig, Alignment, Interior, Lifetime}
use Rattle.tm_base.specs.declared.answer.Answer.{Answer}
use Rattle.tm_base.specs.declared.answer.Answer.TheVariants.{Yes, YesBecause, No, NoAt, Refused}
use Rattle.tm_base.specs.declared.answer.Side.TheVariants.{Source, Target}
use Rattle.tm_base.specs.Answers.{AreJudged, Casts, IsTrueAnswer}
use Rattle.tm_base.specs.Cells.{Word, fit, OrOwn}
use Rattle.tm_base.specs.Compatible.{CompatibleTo, Keeps, KeepsAll, MeetsLocally, MeetsOver}
use Rattle.tm_base.specs.Expanded.{Expanded}
use Rattle.tm_base.specs.Layout.{size_of}
use Rattle.tm_base.specs.Rules.{source, target, Taken}
use Rattle.tm_base.specs.Tables.{Tables, OnRows, pointee_in}
use Rattle.tm_base.specs.Transmutes.{Transmutes}
use Rattle.tm_base.specs.Valid.{Valid}
use Rattle.tm_base.proofs.CompatibleLemmas.{CompatibleTo-falls}
use Rattle.tm_base.proofs.ValidLemmas.{Valid-grows}
use Rattle.tm_refute.specs.declared.refutation.Entry.{Entry}
use Rattle.tm_refute.specs.declared.refutation.Piece.{Piece}
use Rattle.tm_refute.specs.declared.refutation.Proof.{Proof}
use Rattle.tm_refute.specs.declared.refutation.Proof.TheVariants.{Local, Forward, Reverse}
use Rattle.tm_refute.specs.declared.refutation.Refutation.{Refutation}
use Rattle.tm_refute.specs.Law.{IsNo, IsRefuted}
use Rattle.tm_refute.specs.Refutes.{Breaks, FailsAt, Holds, Refutes, Stands}

-- who keeps all local rules breaks none
pub keeps-each : (tables : Tables) (assume : Assume) (r t : RefRow) → KeepsAll tables assume r t → (rule : LocalRule) → Keeps tables assume r t rule
keeps-each tables assume r t all MoreUnique = all.more_unique
keeps-each tables assume r t all TooBig = all.too_big
keeps-each tables assume r t all Alignment = all.alignment
keeps-each tables assume r t all Interior = all.interior
keeps-each tables assume r t all Lifetime = all.lifetime

-- two facts of two rows that don't go together
apart : (r t : Option RefRow) (P Q : RefRow → RefRow → Type 0) → ((r t : RefRow) → P r t → Q r t → ⊥) → OnRows r t P → OnRows r t Q → ⊥
apart (Some r) (Some t) P Q never p q = never r t p q
apart (Some r) None P Q never p q = p
apart None t P Q never p q = p

module _ (tables : Tables) (assume : Assume) where
  abbrev To : ℕ → ℕ → ℕ → Type 0
  To = CompatibleTo tables assume

  falls-by : (more depth r t : ℕ) → To (more + depth) r t → To depth r t
  falls-by zero depth r t h = let e : zero + depth ≡ depth = omega arith in subst (λ (n : ℕ). To n r t) e h
  falls-by (suc more) depth r t h =
      let e : suc more + depth ≡ suc (more + depth) = omega arith in
      falls-by more depth r t (CompatibleTo-falls tables assume (more + depth) r t (subst (λ (n : ℕ). To n r t) e h))

  -- compatible to a depth is so to each lesser one
  falls : (lesser depth r t : ℕ) → lesser ≤ depth → To depth r t → To lesser r t
  falls lesser depth r t less h =
      let e : depth ≡ (depth - lesser) + lesser = omega arith in
      falls-by (depth - lesser) lesser r t (subst (λ (n : ℕ). To n r t) e h)

  module _ (entries : List Entry) where
    -- A word that a target doesn't go along with isn't taken, where whatever A lets pass stands.
    refuses : (A : ℕ → ℕ → Type 0) (limit : Option ℕ) → ((x y : ℕ) → A x y → Stands entries limit x y) → assume.validity ≡ false
        → (s t : Expanded) (piece : Piece) → Breaks tables assume entries limit s t piece → Transmutes A assume s t → ⊥
    refuses A limit over plain s t piece breaks (inl none) = none piece.word breaks.value
    refuses A limit over plain s t piece breaks (inr (inl (e, every))) =
        let word : Word = fit piece.word (size_of t) in
        let grown : Valid (OrOwn (Stands entries limit)) assume.safety t word = Valid-grows A (OrOwn (Stands entries limit)) assume.safety assume.safety (λ x y a. inl (over x y a)) (λ h. h) t word (every piece.word breaks.value) in
        breaks.stops (drop (piece.offset + 1) word, subst (λ w. Valid (OrOwn (Stands entries limit)) assume.safety t w) (sym (take-append-drop (piece.offset + 1) word)) grown)
    refuses A limit over plain s t piece breaks (inr (inr (e, some))) = cc

    module _ (plain : assume.validity ≡ false) (each : All (Holds tables assume entries) entries) where
      -- the entries with lesser depths fail
      abbrev FailBelow : ℕ → Type 0
      FailBelow n = (k : ℕ) (d : Entry) → k < length entries → (slice_index_or entries k d).depth < n → ¬ To (slice_index_or entries k d).depth (slice_index_or entries k d).source.0 (slice_index_or entries k d).target.0

      -- what is compatible one level less stands
      stands : (depth : ℕ) → FailBelow (suc depth) → (x y : ℕ) → To depth x y → Stands entries (Some (suc depth)) x y
      stands depth fail x y h k d within is below =
          let e : Entry = slice_index_or entries k d in
          fail k d within below (subst (λ (r : ℕ). To e.depth r e.target.0) (sym is.source) (subst (λ (t : ℕ). To e.depth x t) (sym is.target) (falls e.depth depth x y (omega arith) h)))

      at_zero : (proof : Proof) (r t : RefRow) → FailsAt tables assume entries zero proof r t → MeetsLocally tables assume r t → ⊥
      at_zero (Local rule) r t h meets = h.shown.1.broken (keeps-each tables assume r t meets.keeps rule)
      at_zero (Forward piece) r t h meets = absurd (omega (arith, h.shown.0))
      at_zero (Reverse piece) r t h meets = absurd (omega (arith, h.shown.0))

      above_zero : (n : ℕ) → FailBelow (suc n) → (proof : Proof) (r t : RefRow) → FailsAt tables assume entries (suc n) proof r t → MeetsOver tables assume (To n) r t → ⊥
      above_zero n fail (Local rule) r t h meets = absurd (omega (arith, h.shown.0))
      above_zero n fail (Forward piece) r t h meets =
          refuses (To n) (Some (suc n)) (stands n fail) plain (pointee_in tables r) (pointee_in tables t) piece h.shown.1 meets.forward
      above_zero n fail (Reverse piece) r t h meets =
          refuses (To n) (Some (suc n)) (stands n fail) plain (pointee_in tables t) (pointee_in tables r) piece h.shown.2 (meets.backward h.shown.1)

      -- an entry that holds fails at its depth, where those with lesser depths do
      fails : (depth : ℕ) → FailBelow depth → (proof : Proof) (r t : ℕ) → OnRows (slice_get tables.refs r) (slice_get tables.refs t) (FailsAt tables assume entries depth proof) → ¬ To depth r t
      unfolding CompatibleTo
      fails zero fail proof r t h to =
          apart (slice_get tables.refs r) (slice_get tables.refs t) (FailsAt tables assume entries zero proof) (MeetsLocally tables assume) (at_zero proof) h to
      fails (suc n) fail proof r t h to =
          apart (slice_get tables.refs r) (slice_get tables.refs t) (FailsAt tables assume entries (suc n) proof) (MeetsOver tables assume (To n)) (above_zero n fail proof) h to

      fail-below : (n : ℕ) → FailBelow n
      fail-below zero k d within below = absurd (omega arith)
      fail-below (suc n) k d within below =
          let e : Entry = slice_index_or entries k d in
          fails e.depth (λ j f inside less. fail-below n j f inside (omega arith)) e.proof e.source.0 e.target.0 (each k d within)

      -- each entry fails at its depth
      pub each-fails : All (λ entry. ¬ To entry.depth entry.source.0 entry.target.0) entries
      each-fails k d within = fail-below (suc (slice_index_or entries k d).depth) k d within (omega arith)

      -- what is compatible at every depth stands
      pub all-stand : (x y : ℕ) → ((depth : ℕ) → To depth x y) → Stands entries None x y
      all-stand x y h k d within is below =
          let e : Entry = slice_index_or entries k d in
          each-fails k d within (subst (λ (r : ℕ). To e.depth r e.target.0) (sym is.source) (subst (λ (t : ℕ). To e.depth x t) (sym is.target) (h e.depth)))

-- where the source may not be taken as the target, a true answer between judged types is a no
noes : (tables : Tables) (ask : Ask) → ask.assume.validity ≡ false → AreJudged tables ask → ¬ Casts tables ask → (answer : Answer) → IsTrueAnswer tables ask answer → IsNo answer
noes tables ask plain judged uncast Yes h = uncast h.casts
noes tables ask plain judged uncast (YesBecause w) h = let assumed = h.assumed in cc
noes tables ask plain judged uncast (No rule) h = tt
noes tables ask plain judged uncast (NoAt rule o w fault) h = tt
noes tables ask plain judged uncast (Refused Source why g) h = let fine = judged.source_judged g h.reached in let fault = h.at_fault in cc
noes tables ask plain judged uncast (Refused Target why g) h = let fine = judged.target_judged g h.reached in let fault = h.at_fault in cc

pub refuted : (tables : Tables) (ask : Ask) (x : Refutation) → Refutes tables ask x → IsRefuted tables ask x
refuted tables ask x h =
    let uncast : ¬ Casts tables ask = refuses tables ask.assume x.entries (Taken tables ask) None (all-stand tables ask.assume x.entries h.unassumed h.entries) h.unassumed (source tables ask) (target tables ask) x.top h.top in
    record { casts = uncast; unheld = λ yes. uncast yes.casts; answers = noes tables ask h.unassumed h.judged uncast; entries = each-fails tables ask.assume x.entries h.unassumed h.entries }
