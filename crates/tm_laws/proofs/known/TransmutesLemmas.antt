-- It is known whether a value of one type may be taken as one of another, where it is known which
-- references may be taken as which.
use Rattle.std.proofs.Common.{ℕ, ◌⊎◌, inl, inr, Bool, true, false}
use Rattle.tm_base.specs.declared.assume.Assume.{Assume}
use Rattle.tm_base.specs.Cells.{Word, fit}
use Rattle.tm_base.specs.Expanded.{Expanded}
use Rattle.tm_base.specs.Layout.{size_of}
use Rattle.tm_base.specs.Transmutes.{IsSourceWord, IsUninhabited, Fits, EveryWordFits, SomeWordFits, Transmutes}
use Rattle.tm_laws.proofs.known.DecideLemmas.{Dec-and, Dec-or, Dec-not, Dec-like, Dec-is, Dec-stable}
use Rattle.tm_laws.proofs.known.ListedLemmas.{find, Listed-under}
use Rattle.tm_laws.proofs.known.ValidLemmas.{Valid-known, IsSourceWord-known, Listed-source}

pub IsUninhabited-known : (s : Expanded) → Dec (IsUninhabited s)
IsUninhabited-known s =
    Dec-like {P = ¬ ((w : Word) × IsSourceWord s w)} (λ none w value. none (w, value)) (λ none (w, value). none w value)
    (Dec-not (find (IsSourceWord s) (Listed-source s) (IsSourceWord-known s)))

-- of a type's values it is known whether some has a fact that is known of each word
pub some_value-known : (s : Expanded) (P : Word → Type 0) → ((w : Word) → Dec (P w)) → Dec ((w : Word) × (IsSourceWord s w × P w))
some_value-known s P known =
    find (λ w. IsSourceWord s w × P w) (Listed-under (λ w. IsSourceWord s w × P w) (IsSourceWord s) (λ w h. h.0) (Listed-source s))
    (λ w. Dec-and (IsSourceWord-known s w) (known w))

module _ (A : ℕ → ℕ → Type 0) (known : (x t : ℕ) → Dec (A x t)) where
  pub Fits-known : (keep : Bool) (t : Expanded) (w : Word) → Dec (Fits A keep t w)
  Fits-known keep t w = Valid-known A known keep t (fit w (size_of t))

  -- each value fits, or one is known that doesn't
  pub every_or_not : (keep : Bool) (s t : Expanded) → EveryWordFits A keep s t ⊎ ((w : Word) × IsSourceWord s w × (¬ Fits A keep t w))
  every_or_not keep s t = go (some_value-known s (λ w. ¬ Fits A keep t w) (λ w. Dec-not (Fits-known keep t w))) where
    go : Dec ((w : Word) × (IsSourceWord s w × (¬ Fits A keep t w))) → EveryWordFits A keep s t ⊎ ((w : Word) × IsSourceWord s w × (¬ Fits A keep t w))
    go (yes (w, (value, f))) = inr (w, value, f)
    go (no none) = inl (λ w value. Dec-stable (Fits-known keep t w) (λ f. none (w, (value, f))))

  EveryWordFits-known : (keep : Bool) (s t : Expanded) → Dec (EveryWordFits A keep s t)
  EveryWordFits-known keep s t = go (every_or_not keep s t) where
    go : EveryWordFits A keep s t ⊎ ((w : Word) × IsSourceWord s w × (¬ Fits A keep t w)) → Dec (EveryWordFits A keep s t)
    go (inl every) = yes every
    go (inr (w, value, f)) = no (λ every. f (every w value))

  SomeWordFits-known : (keep : Bool) (s t : Expanded) → Dec (SomeWordFits A keep s t)
  SomeWordFits-known keep s t =
      Dec-like (λ (w, (value, fits)). (w, value, fits)) (λ (w, value, fits). (w, (value, fits))) (some_value-known s (Fits A keep t) (Fits-known keep t))

  pub Transmutes-known : (assume : Assume) (s t : Expanded) → Dec (Transmutes A assume s t)
  Transmutes-known assume s t =
      Dec-or (IsUninhabited-known s)
      (Dec-or (Dec-and (Dec-is assume.validity false) (EveryWordFits-known assume.safety s t))
      (Dec-and (Dec-is assume.validity true) (SomeWordFits-known assume.safety s t)))
