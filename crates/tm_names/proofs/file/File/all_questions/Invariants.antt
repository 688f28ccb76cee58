use Rattle.std.proofs.Common.{◌≡◌, ◌++◌, drop, map}
use Rattle.tm_names.specs.Resolutions.{ask_of}
use Rattle.tm_names.specs.Source.{names_in}
use Rattle.tm_names.proofs.file.File.all_questions.Given as goal

abbrev pub invariant-loop-item : goal.invariant-loop-item
invariant-loop-item l =
    l.asks ++ map (ask_of (names_in l.self.source) l.parsed) (drop l.item-index l.item-items) ≡ map (ask_of (names_in l.fn.self.source) l.fn.parsed) l.fn.parsed.questions
