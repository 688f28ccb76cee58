-- What the pieces and the proofs of a refutation are made from.
use Rattle.std.specs.Prelude.{◌≡◌, ℕ, Bool, false, Option, None, Some}
use Rattle.tm_base.specs.declared.assume.Assume.{Assume}
use Rattle.tm_base.specs.Expanded.{Expanded}
use Rattle.tm_base.specs.Tables.{Tables}
use Rattle.tm_base.specs.Transmutes.{EveryWordFits}
use Rattle.tm_base.specs.Worlds.{tables_of}
use Rattle.tm_layout.specs.Made.{IsMadeFor}
use Rattle.tm_auto.specs.Automata.{Automaton}
use Rattle.tm_refs.specs.Solved.{IsSolvedFor}
use Rattle.tm_walk.specs.Meanings.{EachWordFits, IsFirstRefusal}
use Rattle.tm_refute.specs.declared.refuting.maker.Maker.{Maker}
use Rattle.tm_refute.specs.declared.refutation.Piece.{Piece}
use Rattle.tm_refute.specs.Chosen.{HoldsBelow, IsFirstRefused}

-- The layouts are those of the world, the table is the one for what is assumed, and `validity` isn't.
pub record IsMaking (maker : Maker) : Type 0 where
  pub made : IsMadeFor (tables_of maker.world.now) maker.layouts.now
  pub solved : IsSolvedFor (tables_of maker.world.now) maker.assume maker.compat.now
  pub unassumed : maker.assume.validity ≡ false

-- the value of the source that is refused first; none where each fits
abbrev pub IsPieceAnswer : Tables → Assume → Option ℕ → Expanded → Expanded → Option Piece → Type 0
IsPieceAnswer tables assume limit s t None = EveryWordFits (HoldsBelow tables assume limit) assume.safety s t
IsPieceAnswer tables assume limit s t (Some piece) = IsFirstRefused tables assume limit s t piece

-- the word of an automaton that another one refuses first; none where each fits
abbrev pub IsRefusedWord : (ℕ → ℕ → Bool) → Automaton → Automaton → Option Piece → Type 0
IsRefusedWord A src dst None = EachWordFits A src dst
IsRefusedWord A src dst (Some piece) = IsFirstRefusal A src dst piece.word piece.offset
