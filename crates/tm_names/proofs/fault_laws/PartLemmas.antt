-- The faults of the parts of a file: where each of them comes from, and that each comes.
use Rattle.std.proofs.Common.{◌≡◌, ℕ, refl, sym, ◌∙◌, subst, inl, ⊎_elim, Bool, true, false, List, [], ◌∷◌, ◌++◌, append_assoc, append-nil}
use Rattle.std.specs.Prelude.{IsTrue}
use Rattle.std.proofs.lemmas.Bool.{false≢true}
use Rattle.tm_base.specs.declared.limit.NameWhy.{NameWhy}
use Rattle.tm_base.specs.declared.limit.NameWhy.TheVariants.{Twice}
use Rattle.tm_names.proofs.Members.{Member, behind, either, front}
use Rattle.tm_names.specs.declared.faults.least.NameFault.{NameFault}
use Rattle.tm_names.specs.Found.{repeats_behind}
use Rattle.tm_names.specs.Least.{fault_where}
use Rattle.tm_names.specs.Written.{is_among}

abbrev pub fault : NameWhy → ℕ → NameFault
fault why place = record { why = why; place = place }

-- a fault that is found somewhere is the one that may stand there, and only where something is wrong
pub from_where : (P : NameFault → Type 0) (wrong : Bool) (why : NameWhy) (place : ℕ) (f : NameFault)
    → (wrong ≡ true → P (fault why place)) → Member f (fault_where wrong why place) → P f
from_where P true why place f h m = ⊎_elim (λ e. subst P e (h refl)) (λ n. absurd n) m
from_where P false why place f h m = absurd m

pub into_where : (wrong : Bool) (why : NameWhy) (place : ℕ) → wrong ≡ true → Member (fault why place) (fault_where wrong why place)
into_where true why place e = inl refl
into_where false why place e = absurd (false≢true e)

module _ (name : ℕ → List ℕ) where
  -- each fault is of a name that stands before in the list
  pub from_repeats : (P : NameFault → Type 0) (f : NameFault) (whole earlier places : List ℕ) → earlier ++ places ≡ whole
      → ((before after : List ℕ) (place : ℕ) → before ++ (place ∷ after) ≡ whole → IsTrue (is_among name before place) → P (fault Twice place))
      → Member f (repeats_behind name earlier places) → P f
  from_repeats P f whole earlier [] e h m = absurd m
  from_repeats P f whole earlier (p ∷ ps) e h m =
      ⊎_elim (λ n. from_where P (is_among name earlier p) Twice p f (λ t. h earlier ps p e t) n)
      (λ n. from_repeats P f whole (earlier ++ (p ∷ [])) ps (append_assoc earlier (p ∷ []) ps ∙ e) h n)
      (either f (fault_where (is_among name earlier p) Twice p) (repeats_behind name (earlier ++ (p ∷ [])) ps) m)

  -- and each such name has one
  pub into_repeats : (earlier before after : List ℕ) (place : ℕ) → is_among name (earlier ++ before) place ≡ true
      → Member (fault Twice place) (repeats_behind name earlier (before ++ (place ∷ after)))
  into_repeats earlier [] after place t =
      front (fault Twice place) (fault_where (is_among name earlier place) Twice place) (repeats_behind name (earlier ++ (place ∷ [])) after)
      (into_where (is_among name earlier place) Twice place (subst (λ those. is_among name those place ≡ true) (append-nil earlier) t))
  into_repeats earlier (q ∷ qs) after place t =
      behind (fault Twice place) (fault_where (is_among name earlier q) Twice q) (repeats_behind name (earlier ++ (q ∷ [])) (qs ++ (place ∷ after)))
      (into_repeats (earlier ++ (q ∷ [])) qs after place (subst (λ those. is_among name those place ≡ true) (sym (append_assoc earlier (q ∷ []) qs)) t))
