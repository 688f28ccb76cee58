use Rattle.std.proofs.Common.{◌≡◌, ◌++◌, take, string_bytes}
use Rattle.std.specs.Prelude.{flat_map}
use Rattle.std.specs.List.{All}
use Rattle.tm_refute.specs.Written.{IsEntryReadBack, ended, entry_text}
use Rattle.tm_refute.proofs.text.writing.write_text.Given as goal

-- the lines of the entries so far are written, and each of them is read back
abbrev pub invariant-loop-entry : goal.invariant-loop-entry
invariant-loop-entry l = record {
  written : string_bytes l.text ≡ string_bytes l.initial.text ++ flat_map (λ entry. ended (entry_text entry)) (take l.entry-index l.x.entries);
  back : All IsEntryReadBack (take l.entry-index l.x.entries);
}
