-- What cells are to a type, as they are matched: no cell is of a reference, so it plays no role which references are
-- taken as which.
use Rattle.std.specs.Prelude.{ℕ, ◌+◌, Bool, [], take}
use Rattle.tm_base.specs.Cells.{Word}
use Rattle.tm_base.specs.Expanded.{Expanded}
use Rattle.tm_base.specs.Transmutes.{holds, is_itself}
use Rattle.tm_base.specs.Valid.{Valid as IsValid}
use Rattle.tm_base.specs.Viable.{Viable}
use Rattle.tm_validate.specs.declared.matching.Fits.{Fits}
use Rattle.tm_validate.specs.declared.matching.Fits.TheVariants.{Valid, NoWord, RefusedAt}

module _ (keep : Bool) (t : Expanded) where
  -- some value begins with the cells
  abbrev pub GoesOn : Word → Type 0
  GoesOn = Viable (holds is_itself) keep t

  -- so many of the cells begin a value, and one more don't
  pub record IsLast (cells : Word) (count : ℕ) : Type 0 where
    pub goes : GoesOn (take count cells)
    pub stops : ¬ GoesOn (take (count + 1) cells)

  abbrev pub IsMatch : Word → Fits → Type 0
  IsMatch cells Valid = IsValid (holds is_itself) keep t cells
  IsMatch cells NoWord = ¬ GoesOn []
  IsMatch cells (RefusedAt count) = IsLast cells count
