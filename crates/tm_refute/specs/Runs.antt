-- Pieces as they are read.
use Rattle.std.specs.Prelude.{◌≡◌, ℕ, ◌<◌, ◌≤◌, ◌⊎◌, false, List, length, Result, Ok, Err, [], ◌++◌, codes, Option, Some, None}
use Rattle.std.specs.Fmt.{decimal, digit_glyph}
use Rattle.tm_base.specs.Cells.{Word}
use Rattle.tm_refute.specs.WordForms as form
use Rattle.tm_refute.specs.WordForms.{IsPart, most_cells, part_cells, part_text, repeated}
use Rattle.tm_refute.specs.declared.text.part.Part.{Part}
use Rattle.tm_refute.specs.declared.text.part.Part.TheVariants.{Byte, Uninit, Reference}
use Rattle.tm_refute.specs.declared.text.part.Run.{Run}
use Rattle.tm_refute.specs.declared.stop.Stop.{Stop}
use Rattle.tm_refute.specs.declared.stop.Stop.TheVariants.{Form, Memory}

-- the value of a digit of base 16, or it is none
abbrev pub TakesGlyph : ℕ → Option ℕ → Type 0
TakesGlyph glyph (Some d) = (d < 16) × (glyph ≡ digit_glyph false d)
TakesGlyph glyph None = (d : ℕ) → d < 16 → glyph ≡ digit_glyph false d → ⊥

-- the part that was read
abbrev pub as_part : Part → form.Part
as_part (Byte b) = form.byte b
as_part Uninit = form.uninit
as_part (Reference id) = form.reference id.0

-- the text is that of the part
abbrev pub IsPartText : Part → List ℕ → Type 0
IsPartText part text = IsPart (as_part part) × (text ≡ part_text (as_part part))

-- nothing for once, or as `*8`
abbrev pub IsTimesText : ℕ → List ℕ → Type 0
IsTimesText n text = ((n ≡ 1) × (text ≡ [])) ⊎ ((1 ≤ n) × (n ≤ most_cells) × (text ≡ codes "*" ++ decimal n))

-- a part, and how often
pub record IsRunText (run : Run) (text : List ℕ) : Type 0 where
  pub front : List ℕ
  pub back : List ℕ
  pub text_is : text ≡ front ++ back
  pub part : IsPartText run.part front
  pub times : IsTimesText run.times back

-- its cells, where a reference has so many bytes
abbrev pub run_cells : ℕ → Run → Word
run_cells pointer run = repeated run.times (part_cells pointer (as_part run.part))

-- the cells were added, or would be too many
abbrev pub AddsRun : Word → Word → Word → Result (Unit {0}) Stop → Type 0
AddsRun cells old new (Ok _) = (new ≡ old ++ cells) × (length new ≤ most_cells)
AddsRun cells old new (Err Form) = most_cells < length (old ++ cells)
AddsRun cells old new (Err Memory) = Unit {0}

-- what was read, or there is nothing in that form
abbrev pub Reads : {V : Type 0} → (V → Type 0) → Result V Stop → Type 0
Reads {V} form (Ok v) = form v
Reads {V} form (Err Form) = (v : V) → form v → ⊥
Reads {V} form (Err Memory) = Unit {0}
