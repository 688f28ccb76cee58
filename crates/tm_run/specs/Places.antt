-- Places in a file. The first byte has the number 0, and the first line the number 1.
use Rattle.std.specs.Prelude.{◌≡◌, ℕ, ◌+◌, ◌==◌, Bool, List, take, count_by}
use Rattle.tm_report.specs.declared.fault.At.{At}

abbrev pub ends_line : ℕ → Bool
ends_line b = b == 0x0A

-- the place of a byte: its line is one more than the line ends before it
abbrev pub at_byte : List ℕ → ℕ → At
at_byte file byte = record { byte = byte; line = count_by ends_line (take byte file) + 1 }

-- the place's line is that of its byte
abbrev pub IsPlaceIn : List ℕ → At → Type 0
IsPlaceIn file at = at ≡ at_byte file at.byte
