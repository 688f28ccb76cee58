-- What bytes are to a type: those of a buffer that is read as one of its values.
use Rattle.std.specs.Prelude.{ℕ, Bool, List, map}
use Rattle.tm_base.specs.declared.cell.Cell.TheVariants.{Byte}
use Rattle.tm_base.specs.Cells.{Word}
use Rattle.tm_base.specs.Expanded.{Expanded}
use Rattle.tm_base.specs.Transmutes.{Fits}
use Rattle.tm_base.specs.Viable.{HasWord, RefusesAt}
use Rattle.tm_validate.specs.declared.matching.Fits.{Fits as Answer}
use Rattle.tm_validate.specs.declared.matching.Fits.TheVariants.{Valid, NoWord, RefusedAt}

-- the cells of initialised bytes
abbrev pub bytes_of : List ℕ → Word
bytes_of = map Byte

module _ (A : ℕ → ℕ → Type 0) (keep : Bool) (t : Expanded) (bytes : List ℕ) where
  -- the type has values, and these bytes, fitted, begin one up to the offset and not with one more
  pub record AreRefusedAt (offset : ℕ) : Type 0 where
    pub has : HasWord A keep t
    pub unfit : ¬ Fits A keep t (bytes_of bytes)
    pub at : RefusesAt A keep t (bytes_of bytes) offset

  -- what the bytes are to the type
  abbrev pub AreTo : Answer → Type 0
  AreTo Valid = Fits A keep t (bytes_of bytes)
  AreTo NoWord = ¬ HasWord A keep t
  AreTo (RefusedAt offset) = AreRefusedAt offset
