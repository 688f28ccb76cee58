-- Layers of one pair.
use Rattle.std.proofs.Common.{Result, Ok, Err, IfOk, ◌≡◌, ℕ, zero, suc, ◌<◌, inl, inr, Option, None, List, [], ◌∷◌, ◌++◌, Some, slice_get, length, refl, ap, ◌∙◌, subst, arith, Contains}
use Rattle.std.specs.Result.{IsErrAnd}
use Rattle.tm_base.proofs.JudgedLemmas.{Contains-none}
use Rattle.tm_auto.proofs.ContainsLemmas.{here}
use Rattle.tm_walk.specs.declared.way.Reached.{Reached}
use Rattle.tm_walk.specs.Layers.{Entry, IsOffered}
use Rattle.tm_walk.specs.Numbers.{reached_entry, only_or}

-- the pair itself
pub only_at : (only : Reached) (k : ℕ) → k < length (reached_entry only ∷ []) → (e : Entry) × (slice_get (reached_entry only ∷ []) k ≡ Some e) × (only.src ≡ e.src) × (only.dst ≡ e.dst)
only_at only zero l = (reached_entry only, refl, refl, refl)
only_at only (suc k) l = absurd (omega arith)

-- one of its sets isn't put behind it
pub offered_again : (only : Option Reached) (first : Reached) (several : List Entry) (e : Entry) → only ≡ Some first → first.src ≡ e.src → first.dst ≡ e.dst → IsOffered e (only_or only several) (reached_entry first ∷ [])
offered_again only first several e is s d = rw is (inl ((reached_entry first, here [], (s, d)), refl))

-- one is put behind another, from nothing on
pub offered_both : (first second : Entry) (none one two : List Entry) → none ≡ [] → IsOffered first none one → IsOffered second one two → IsOffered second (first ∷ []) two
offered_both first second none one two empty (inl ((f, m, s), q)) o = absurd (Contains-none _ (subst (λ (z : List Entry). Contains z f) empty m))
offered_both first second none one two empty (inr (q, n)) o = subst (λ (z : List Entry). IsOffered second z two) (q ∙ ap (λ (z : List Entry). z ++ first ∷ []) empty) o

-- one of other sets is put behind it, in several
pub offered_second : (only after : Option Reached) (first : Reached) (several last : List Entry) (e : Entry) → only ≡ Some first → after ≡ None → IsOffered e (reached_entry first ∷ []) last → IsOffered e (only_or only several) (only_or after last)
offered_second only after first several last e is gone o = rw (is, gone) o

-- what holds of what is answered where nothing is
pub nothing_answered : {X E : Type 0} (P : X → Type 0) (Q : E → Type 0) (result : Result X E) → IsErrAnd result Q → IfOk result P
nothing_answered P Q (Ok x) h = elim h [ ]
nothing_answered P Q (Err e) h = tt
