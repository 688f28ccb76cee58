-- When the bytes of an answer bear it out. This project's.
use Rattle.std.specs.Prelude.{◌≡◌, ℕ, true, false}
use Rattle.tm_base.specs.declared.answer.Answer.{Answer}
use Rattle.tm_base.specs.declared.answer.Answer.TheVariants.{YesBecause, NoAt}
use Rattle.tm_base.specs.declared.ask.Ask.{Ask}
use Rattle.tm_base.specs.Answers.{IsValue}
use Rattle.tm_base.specs.Cells.{Word}
use Rattle.tm_base.specs.Rules.{target}
use Rattle.tm_base.specs.Tables.{Tables}
use Rattle.tm_base.specs.Transmutes.{Fits}
use Rattle.tm_base.specs.Viable.{RefusesAt}

-- A says which source reference may be taken as which target reference.
module _ (A : ℕ → ℕ → Type 0) (tables : Tables) (ask : Ask) where
  -- a word of the source that the target takes
  abbrev pub IsTaken : Word → Type 0
  IsTaken w = IsValue tables ask w × Fits A ask.assume.safety (target tables ask) w

  -- a word of the source that the target refuses at the offset
  abbrev pub IsRefused : Word → ℕ → Type 0
  IsRefused w o = IsValue tables ask w × RefusesAt A ask.assume.safety (target tables ask) w o

  -- Nothing is asked of an answer without bytes, nor of the rule, nor whether another word is less.
  abbrev pub IsBorneOut : Answer → Type 0
  IsBorneOut (YesBecause w) = (ask.assume.validity ≡ true) × IsTaken w
  IsBorneOut (NoAt rule o w fault) = (ask.assume.validity ≡ false) × IsRefused w o
  IsBorneOut _ = Unit {0}
