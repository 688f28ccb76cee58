-- What closing the types of a file answers to it: the one fault that the answer names, or that there is none.
use Rattle.std.proofs.Common.{◌||◌, ◌≡◌, ◌∙◌, ◌<◌, ℕ, zero, suc, arith, inr, true, false, refl, sym, ap, subst, Option, None, Some, List, length}
use Rattle.std.specs.Prelude.{nat_lt}
use Rattle.std.proofs.lemmas.Bool.{ltb-true, ne_eqb}
use Rattle.std.proofs.lemmas.Option.{slice_get_within}
use Rattle.std.proofs.lemmas.Slice.Zip.{AllZip-long}
use Rattle.tm_base.specs.declared.ask.Ask.{Ask}
use Rattle.tm_base.specs.declared.limit.LimitKind.{LimitKind}
use Rattle.tm_base.specs.declared.limit.LimitKind.TheVariants as limit
use Rattle.tm_base.specs.declared.world.World.{World}
use Rattle.tm_names.specs.ApartNames.{HasApartNames}
use Rattle.tm_names.specs.InForm.{IsInForm}
use Rattle.tm_names.specs.declared.resolved.Resolved.{Resolved}
use Rattle.tm_ground.specs.Belongs.{BelongsToFile, IsQuestionOf}
use Rattle.tm_ground.specs.Limits.{HasCause, IsWithinLimits}
use Rattle.tm_ground.specs.declared.fault.GroundErr.{GroundErr}
use Rattle.tm_ground.specs.declared.fault.GroundErr.TheVariants as ground_err
use Rattle.tm_report.specs.declared.fault.FileFault.{FileFault}
use Rattle.tm_report.specs.declared.fault.FileFault.TheVariants.{NotUtf8, NoToken, BadNumber, OpenComment, Unexpected, EndOfFile, Passed, Names, BadRefutation, NoQuestion}
use Rattle.tm_run.specs.Asking.{is_no_question, lacks_question, number_asked, passes_mode, question_at}
use Rattle.tm_run.specs.declared.words.options.Mode.{Mode}
use Rattle.tm_run.specs.declared.words.options.Mode.TheVariants.{Needs, Matrix, Bytes, Refute, Verify}
use Rattle.tm_run.specs.Examined.{IsExamined, IsLateFault, IsMeaningOf, IsOnlyFault, IsStop, stop_of, too_long}
use Rattle.tm_run.specs.Faults.{IsFirstLimit, LacksQuestion, PassesLimitOnTypes}
use Rattle.tm_run.specs.Files.{IsAccepted, IsTooLong}
use Rattle.tm_run.specs.Refutations.{PassesCells}
use Rattle.tm_run.specs.declared.words.options.Options.{Options}

-- what holds of each limit on closed types holds of each late fault
by_late : (options : Options) (file : List ℕ) (P : FileFault → Type 0) → ((kind : LimitKind) → PassesLimitOnTypes options file kind → P (Passed kind None))
    → ((number : ℕ) → LacksQuestion options file number → P (NoQuestion number)) → (fault : FileFault) → IsLateFault options file fault → P fault
by_late options file P limits asked (NotUtf8 at) h = absurd h
by_late options file P limits asked (NoToken at) h = absurd h
by_late options file P limits asked (BadNumber at) h = absurd h
by_late options file P limits asked (OpenComment at) h = absurd h
by_late options file P limits asked (Unexpected at) h = absurd h
by_late options file P limits asked (EndOfFile at) h = absurd h
by_late options file P limits asked (Passed kind None) h = limits kind h
by_late options file P limits asked (Passed kind (Some at)) h = absurd h
by_late options file P limits asked (Names why at) h = absurd h
by_late options file P limits asked (BadRefutation line) h = absurd h
by_late options file P limits asked (NoQuestion number) h = asked number h

module _ (options : Options) (resolved : Resolved) where
  -- what holds of the six kinds of limits that are asked when types are closed, or behind that, holds of each that is the first
  by_kind : (P : LimitKind → Type 0) → (HasCause resolved ground_err.TooManyTypes → P limit.NamedTypes) → (HasCause resolved ground_err.TooManyNodes → P limit.ClosedNodes)
      → (HasCause resolved ground_err.TooManyRefs → P limit.References)
      → (HasCause resolved ground_err.TooDeep → P limit.Depth) → (IsWithinLimits resolved × (passes_mode options.mode (length resolved.asks) ≡ true) → P limit.MatrixTypes)
      → (IsWithinLimits resolved × IsTooLong options resolved → P limit.RefutationCells)
      → (kind : LimitKind) → IsFirstLimit options resolved kind → P kind
  by_kind P types nodes refs depth matrix cells limit.FileBytes h = absurd h
  by_kind P types nodes refs depth matrix cells limit.Definitions h = absurd h
  by_kind P types nodes refs depth matrix cells limit.Questions h = absurd h
  by_kind P types nodes refs depth matrix cells limit.Lifetimes h = absurd h
  by_kind P types nodes refs depth matrix cells limit.Parameters h = absurd h
  by_kind P types nodes refs depth matrix cells limit.TypeParameters h = absurd h
  by_kind P types nodes refs depth matrix cells limit.Fields h = absurd h
  by_kind P types nodes refs depth matrix cells limit.Variants h = absurd h
  by_kind P types nodes refs depth matrix cells limit.Nesting h = absurd h
  by_kind P types nodes refs depth matrix cells limit.TypeNodes h = absurd h
  by_kind P types nodes refs depth matrix cells limit.ArrayLength h = absurd h
  by_kind P types nodes refs depth matrix cells limit.NameBytes h = absurd h
  by_kind P types nodes refs depth matrix cells limit.NamedTypes h = types h
  by_kind P types nodes refs depth matrix cells limit.ClosedNodes h = nodes h
  by_kind P types nodes refs depth matrix cells limit.References h = refs h
  by_kind P types nodes refs depth matrix cells limit.Depth h = depth h
  by_kind P types nodes refs depth matrix cells limit.RefutationCells h = cells h
  by_kind P types nodes refs depth matrix cells limit.TextBytes h = absurd h
  by_kind P types nodes refs depth matrix cells limit.MatrixTypes h = matrix h

  -- a limit on closed types is the only first one
  one_limit : (kind other : LimitKind) → IsFirstLimit options resolved kind → (kind ≡ limit.RefutationCells → ⊥) → (passes_mode options.mode (length resolved.asks) ≡ true → ¬ IsTooLong options resolved)
      → IsFirstLimit options resolved other → other ≡ kind
  one_limit kind other h not_cells apart = by_kind (λ kind. (kind ≡ limit.RefutationCells → ⊥) → IsFirstLimit options resolved other → other ≡ kind)
      (λ a n. by_kind (λ other. other ≡ limit.NamedTypes) (λ b. refl) (λ b. absurd (b.0 a)) (λ b. absurd (b.0 a)) (λ b. absurd (b.0 a)) (λ b. absurd (b.0.types a)) (λ b. absurd (b.0.types a)) other)
      (λ a n. by_kind (λ other. other ≡ limit.ClosedNodes) (λ b. absurd (a.0 b)) (λ b. refl) (λ b. absurd (b.1 a.1)) (λ b. absurd (b.1 a.1)) (λ b. absurd (b.0.nodes a.1)) (λ b. absurd (b.0.nodes a.1)) other)
      (λ a n. by_kind (λ other. other ≡ limit.References) (λ b. absurd (a.0 b)) (λ b. absurd (a.1 b.1)) (λ b. refl) (λ b. absurd (b.2 a.2)) (λ b. absurd (b.0.refs a.2)) (λ b. absurd (b.0.refs a.2)) other)
      (λ a n. by_kind (λ other. other ≡ limit.Depth) (λ b. absurd (a.0 b)) (λ b. absurd (a.1 b.1)) (λ b. absurd (a.2 b.2)) (λ b. refl) (λ b. absurd (b.0.depth a.3)) (λ b. absurd (b.0.depth a.3)) other)
      (λ a n. by_kind (λ other. other ≡ limit.MatrixTypes) (λ b. absurd (a.0.types b)) (λ b. absurd (a.0.nodes b.1)) (λ b. absurd (a.0.refs b.2)) (λ b. absurd (a.0.depth b.3)) (λ b. refl) (λ b. absurd (apart a.1 b.1)) other)
      (λ a n. absurd (n refl))
      kind h not_cells

  -- where the types are within their limits, and a matrix within its own, that on a refutation alone may be passed
  cells_limit : IsWithinLimits resolved → passes_mode options.mode (length resolved.asks) ≡ false → (kind : LimitKind) → IsFirstLimit options resolved kind → IsTooLong options resolved × (kind ≡ limit.RefutationCells)
  cells_limit w few = by_kind (λ kind. IsTooLong options resolved × (kind ≡ limit.RefutationCells)) (λ h. absurd (w.types h)) (λ h. absurd (w.nodes h.1)) (λ h. absurd (w.refs h.2)) (λ h. absurd (w.depth h.3))
      (λ h. let passed = h.1 in absurd cc) (λ h. (h.1, refl))

-- what a mode asks of one question isn't asked of a matrix
matrix-alone : (mode : Option Mode) (questions : ℕ) (world : World) → passes_mode mode questions ≡ true → PassesCells mode world → ⊥
matrix-alone None questions world e h = h
matrix-alone (Some Needs) questions world e h = h
matrix-alone (Some Matrix) questions world e h = h
matrix-alone (Some (Bytes bytes)) questions world e h = h
matrix-alone (Some (Refute number)) questions world e h = absurd cc
matrix-alone (Some (Verify number x)) questions world e h = h

matrix-asks : (mode : Option Mode) (questions number : ℕ) → passes_mode mode questions ≡ true → number_asked mode ≡ Some number → ⊥
matrix-asks None questions number e h = cc
matrix-asks (Some Needs) questions number e h = cc
matrix-asks (Some Matrix) questions number e h = cc
matrix-asks (Some (Bytes bytes)) questions number e h = cc
matrix-asks (Some (Refute n)) questions number e h = cc
matrix-asks (Some (Verify n x)) questions number e h = cc

-- a refutation that is too long is one of a question that is there
too-long-asks : (mode : Option Mode) (world : World) (number : ℕ) → PassesCells mode world → number_asked mode ≡ Some number → (ask : Ask) × (question_at world.questions number ≡ Some ask)
too-long-asks None world number h e = absurd h
too-long-asks (Some Needs) world number h e = absurd h
too-long-asks (Some Matrix) world number h e = absurd h
too-long-asks (Some (Bytes bytes)) world number h e = absurd h
too-long-asks (Some (Refute n)) world number h e = let same : n ≡ number = cc in (h.ask, subst (λ (k : ℕ). question_at world.questions k ≡ Some h.ask) same h.at)
too-long-asks (Some (Verify n x)) world number h e = absurd h

no-question : (asks : List Ask) (number : ℕ) (ask : Ask) → question_at asks number ≡ Some ask → is_no_question number (length asks) ≡ true → ⊥
no-question asks zero ask e h = cc
no-question asks (suc k) ask e h = let less = slice_get_within asks k ask e in let past = ltb-true (length asks) (suc k) (sym (ap (λ b. b || nat_lt (length asks) (suc k)) (ne_eqb (suc k) 0 (λ z. cc))) ∙ h) in omega (arith, less, past)

-- a world has as many questions as are asked
pub as-many : (resolved : Resolved) (world : World) → BelongsToFile resolved world → length world.questions ≡ length resolved.asks
as-many resolved world belongs = AllZip-long (IsQuestionOf resolved world) resolved.asks world.questions belongs.questions

module _ (options : Options) (file : List ℕ) (resolved : Resolved) (m : IsMeaningOf options file resolved) where
  first_here : (kind : LimitKind) (h : PassesLimitOnTypes options file kind) → IsFirstLimit options resolved kind
  first_here kind h = subst (λ (r : Resolved). IsFirstLimit options r kind) (m.only h.resolved h.names) h.first

  lacks_here : (number : ℕ) (h : LacksQuestion options file number) → IsWithinLimits resolved × (is_no_question number (length resolved.asks) ≡ true)
  lacks_here number h = subst (λ (r : Resolved). IsWithinLimits r × (is_no_question number (length r.asks) ≡ true)) (m.only h.resolved h.names) (h.limits, h.lacks)

  -- a file that passes one of these limits, but that on a refutation, isn't accepted, and lacks no question
  unaccepted : (kind : LimitKind) → IsFirstLimit options resolved kind → (kind ≡ limit.RefutationCells → ⊥) → ¬ IsAccepted options file
  unaccepted kind first not_cells a =
      let r = m.only a.resolved a.answerable.names in
      let here = subst (λ (r : Resolved). IsWithinLimits r × (passes_mode options.mode (length r.asks) ≡ false)) r (a.answerable.limits, a.answerable.few) in
      not_cells (cells_limit options resolved here.0 here.1 kind first).1

  within-lacks : (kind : LimitKind) → IsFirstLimit options resolved kind → (kind ≡ limit.RefutationCells → ⊥) → (number : ℕ) → LacksQuestion options file number → ⊥
  within-lacks kind first not_cells number h =
      let (within, lacks) = lacks_here number h in
      by_kind options resolved (λ kind. (kind ≡ limit.RefutationCells → ⊥) → ⊥) (λ a n. within.types a) (λ a n. within.nodes a.1) (λ a n. within.refs a.2) (λ a n. within.depth a.3)
      (λ a n. matrix-asks options.mode (length resolved.asks) number a.1 h.asked) (λ a n. n refl) kind first not_cells

  -- the limit that is passed is the one fault
  pub limit_only : (kind : LimitKind) → IsFirstLimit options resolved kind → (kind ≡ limit.RefutationCells → ⊥) → IsOnlyFault options file (Passed kind None)
  limit_only kind first not_cells = record {
    has = inr (record { resolved = resolved; names = m.names; first = first });
    only = λ other h. by_late options file (λ other. other ≡ Passed kind None)
        (λ k passes. ap (λ k. Passed k None) (one_limit options resolved kind k first not_cells (λ e long. matrix-alone options.mode (length resolved.asks) long.world e long.passes) (first_here k passes)))
        (λ number lacks. absurd (within-lacks kind first not_cells number lacks))
        other (m.faultless other h);
    refused = unaccepted kind first not_cells;
  }

  -- a cause for which the types aren't closed stops the file
  pub cause_stops : (err : GroundErr) → HasCause resolved err → IsStop options file (stop_of err)
  cause_stops ground_err.TooManyTypes h = limit_only limit.NamedTypes h (λ e. cc)
  cause_stops ground_err.TooManyNodes h = limit_only limit.ClosedNodes h (λ e. cc)
  cause_stops ground_err.TooManyRefs h = limit_only limit.References h (λ e. cc)
  cause_stops ground_err.TooDeep h = limit_only limit.Depth h (λ e. cc)
  cause_stops ground_err.Memory h = tt

  module _ (limits : IsWithinLimits resolved) (few : passes_mode options.mode (length resolved.asks) ≡ false) where
    -- a question that is asked of and isn't there is the one fault
    pub question_only : (number : ℕ) → number_asked options.mode ≡ Some number → is_no_question number (length resolved.asks) ≡ true → IsOnlyFault options file (NoQuestion number)
    question_only number asked lacks = record {
      has = record { resolved = resolved; names = m.names; limits = limits; asked = asked; lacks = lacks };
      only = λ other h. by_late options file (λ other. other ≡ NoQuestion number)
          (λ k passes. absurd (not_long (cells_limit options resolved limits few k (first_here k passes)).0))
          (λ n there. let same : n ≡ number = (let e = there.asked in cc) in ap NoQuestion same)
          other (m.faultless other h);
      refused = λ a. let here = subst (λ (r : Resolved). lacks_question (number_asked options.mode) (length r.asks) ≡ false) (m.only a.resolved a.answerable.names) a.answerable.asked in
          let there = ap (λ n. lacks_question n (length resolved.asks)) asked in cc;
    }
      where
        not_long : IsTooLong options resolved → ⊥
        not_long long =
            let (ask, at) = too-long-asks options.mode long.world number long.passes asked in
            no-question long.world.questions number ask at (ap (is_no_question number) (as-many resolved long.world long.belongs) ∙ lacks)

    -- where it is, the file has no fault but that its refutation may be too long
    pub examined : (world : World) → IsInForm resolved → HasApartNames resolved → lacks_question (number_asked options.mode) (length resolved.asks) ≡ false → BelongsToFile resolved world
        → IsExamined options file world
    examined world form apart there belongs = record {
      resolved = resolved;
      answerable = record { names = m.names; limits = limits; few = few; asked = there };
      belongs = belongs;
      form = form;
      apart = apart;
      only = m.only;
      faultless = λ fault h. by_late options file (λ fault. IsTooLong options resolved × (fault ≡ too_long))
          (λ k passes. let (long, is) = cells_limit options resolved limits few k (first_here k passes) in (long, ap (λ k. Passed k None) is))
          (λ number lacks. absurd (let e = lacks.asked in let here = (lacks_here number lacks).1 in let none = ap (λ n. lacks_question n (length resolved.asks)) e in cc))
          fault (m.faultless fault h);
    }

-- so those of an examined file are no more than the mode takes, and the one that it asks of is there
pub few-asked : (options : Options) (file : List ℕ) (world : World) → IsExamined options file world → passes_mode options.mode (length world.questions) ≡ false
few-asked options file world w = ap (passes_mode options.mode) (as-many w.resolved world w.belongs) ∙ w.answerable.few

pub there-asked : (options : Options) (file : List ℕ) (world : World) → IsExamined options file world → lacks_question (number_asked options.mode) (length world.questions) ≡ false
there-asked options file world w = ap (lacks_question (number_asked options.mode)) (as-many w.resolved world w.belongs) ∙ w.answerable.asked
