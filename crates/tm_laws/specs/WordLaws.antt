-- Where a target refuses a word, and how references stand in the words of a source.
use Rattle.std.specs.Prelude.{◌≡◌, ℕ, ◌^◌, ◌<◌, ◌↔◌, Bool}
use Rattle.std.specs.List.{All}
use Rattle.tm_base.specs.declared.cell.Cell.{Cell}
use Rattle.tm_base.specs.declared.cell.Cell.TheVariants.{Byte, Uninit, Ptr}
use Rattle.tm_base.specs.declared.ask.Ask.{Ask}
use Rattle.tm_base.specs.declared.ground.Ground.{Ground}
use Rattle.tm_base.specs.declared.world.World.{World}
use Rattle.tm_base.specs.Answers.{IsValue, IsAccepted, IsRefusedAt}
use Rattle.tm_base.specs.Cells.{Word, HasWholeReferences}
use Rattle.tm_base.specs.Expanded.{Expanded}
use Rattle.tm_base.specs.Layout.{size_of}
use Rattle.tm_base.specs.Profiles.{pointer_size}
use Rattle.tm_base.specs.Rules.{target, HasTargetWord}
use Rattle.tm_base.specs.Tables.{Tables, expanded_in}
use Rattle.tm_base.specs.Transmutes.{IsSourceWord, Fits, holds}
use Rattle.tm_base.specs.Viable.{HasWord, RefusesAt}
use Rattle.tm_base.specs.Worlds.{tables_of, IsTypeOver}

-- The cell is no byte of a reference that stands open: those of a source have numbers below 2 ^ 32.
abbrev pub IsClosed : Cell → Type 0
IsClosed (Byte b) = Unit {0}
IsClosed Uninit = Unit {0}
IsClosed (Ptr r k) = r.0 < 2 ^ 32

-- a relation of references of a source
abbrev pub IsOfSources : (ℕ → ℕ → Type 0) → Type 0
IsOfSources A = (x t : ℕ) → A x t → x < 2 ^ 32

-- a target refuses a word at one offset at most
abbrev pub RefusedAtOneOffset : Type 0
RefusedAtOneOffset =
    (A : ℕ → ℕ → Bool) (keep : Bool) (t : Expanded) (w : Word) (o p : ℕ) → RefusesAt (holds A) keep t w o → RefusesAt (holds A) keep t w p → o ≡ p

-- a target that has a word refuses a word of a source, inside of its own size, exactly where that doesn't fit
abbrev pub RefusedWhereUnfit : Type 0
RefusedWhereUnfit =
    (A : ℕ → ℕ → Bool) (keep : Bool) (t : Expanded) (w : Word) → IsOfSources (holds A) → All IsClosed w → HasWord (holds A) keep t
    → (¬ Fits (holds A) keep t w) ↔ ((o : ℕ) × (o < size_of t) × RefusesAt (holds A) keep t w o)

-- So it is in each question over a world whose target has a word: a value is accepted, or it is refused.
abbrev pub ValuesRefusedWhereUnfit : World → Type 0
ValuesRefusedWhereUnfit world =
    (ask : Ask) → IsTypeOver (tables_of world) ask.src → IsTypeOver (tables_of world) ask.dst → HasTargetWord (tables_of world) ask ask.assume.safety
    → (w : Word) → IsValue (tables_of world) ask w
    → (¬ IsAccepted (tables_of world) ask w) ↔ ((o : ℕ) × (o < size_of (target (tables_of world) ask)) × IsRefusedAt (tables_of world) ask w o)

-- a word of a source has whole references, of as many cells as the tables' profile gives them
abbrev pub WordsHaveWholeReferences : Type 0
WordsHaveWholeReferences =
    (tables : Tables) (g : Ground) (w : Word) → IsSourceWord (expanded_in tables g) w → HasWholeReferences (pointer_size tables.profile) w
