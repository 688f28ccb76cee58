-- When a value of one type may be taken as a value of another: the documentation of
-- `core::mem::TransmuteFrom` and `core::mem::Assume`. That a source without values may be taken as
-- anything is this project's.
use Rattle.std.specs.Prelude.{◌≡◌, ℕ, ◌⊎◌, ◌==◌, Bool, true, false, IsTrue}
use Rattle.tm_base.specs.declared.assume.Assume.{Assume}
use Rattle.tm_base.specs.Cells.{Word, fit}
use Rattle.tm_base.specs.Expanded.{Expanded}
use Rattle.tm_base.specs.Layout.{size_of}
use Rattle.tm_base.specs.Valid.{Valid}

-- each reference holds a value of itself alone
abbrev pub Same : ℕ → ℕ → Type 0
Same x t = x ≡ t

-- the test of that
abbrev pub is_itself : ℕ → ℕ → Bool
is_itself x t = x == t

-- a value of the source: its references are its own, and its private types are met
abbrev pub IsSourceWord : Expanded → Word → Type 0
IsSourceWord s w = Valid Same true s w

-- what the target's bytes hold where the source's were written
abbrev pub Fits : (ℕ → ℕ → Type 0) → Bool → Expanded → Word → Type 0
Fits A keep t w = Valid A keep t (fit w (size_of t))

-- the source has no value
abbrev pub IsUninhabited : Expanded → Type 0
IsUninhabited s = (w : Word) → IsSourceWord s w → ⊥

abbrev pub EveryWordFits : (ℕ → ℕ → Type 0) → Bool → Expanded → Expanded → Type 0
EveryWordFits A keep s t = (w : Word) → IsSourceWord s w → Fits A keep t w

abbrev pub SomeWordFits : (ℕ → ℕ → Type 0) → Bool → Expanded → Expanded → Type 0
SomeWordFits A keep s t = (w : Word) × IsSourceWord s w × Fits A keep t w

-- The source has no value; or each value of it, fitted, is one of the target; or, where `validity` is
-- assumed, some is. A says which source reference may be taken as which target reference.
abbrev pub Transmutes : (ℕ → ℕ → Type 0) → Assume → Expanded → Expanded → Type 0
Transmutes A assume s t =
    IsUninhabited s
    ⊎ ((assume.validity ≡ false) × EveryWordFits A assume.safety s t)
    ⊎ ((assume.validity ≡ true) × SomeWordFits A assume.safety s t)

-- Clauses speak of relations that are tests of two numbers.
abbrev pub holds : (ℕ → ℕ → Bool) → ℕ → ℕ → Type 0
holds test x t = IsTrue (test x t)
