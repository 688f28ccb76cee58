-- How far a word goes for a target, and the order of words. This project's.
use Rattle.std.specs.Prelude.{ℕ, ◌+◌, Bool, [], ◌∷◌, ◌++◌, take}
use Rattle.tm_base.specs.declared.cell.Cell.TheVariants.{Ptr}
use Rattle.tm_base.specs.Cells.{Word, fit, own, OrOwn}
use Rattle.tm_base.specs.Expanded.{Expanded}
use Rattle.tm_base.specs.Layout.{size_of}
use Rattle.tm_base.specs.Valid.{Valid}

module _ (A : ℕ → ℕ → Type 0) (keep : Bool) (t : Expanded) where
  -- the target has a word, where its references may hold themselves
  abbrev pub HasWord : Type 0
  HasWord = (w : Word) × Valid (OrOwn A) keep t w

  -- some word of the target begins so
  abbrev pub Viable : Word → Type 0
  Viable prefix = (rest : Word) × Valid (OrOwn A) keep t (prefix ++ rest)

  -- The target goes along with the first o cells of a word, fitted, and not with one more.
  pub record RefusesAt (w : Word) (o : ℕ) : Type 0 where
    pub goes_to : Viable (take o (fit w (size_of t)))
    pub stops : ¬ Viable (take (o + 1) (fit w (size_of t)))

  -- the target reference r may begin behind these cells
  abbrev pub StandsOpen : Word → ℕ → Type 0
  StandsOpen prefix r = Viable (prefix ++ Ptr (record { 0 = own r }) 0 ∷ [])
