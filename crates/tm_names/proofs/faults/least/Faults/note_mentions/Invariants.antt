use Rattle.std.proofs.Common.{◌≡◌, drop}
use Rattle.std.specs.List.{flat_map}
use Rattle.tm_names.specs.Found.{mention_faults}
use Rattle.tm_names.specs.Least.{earliest}
use Rattle.tm_names.specs.Source.{names_in}
use Rattle.tm_names.proofs.faults.least.Faults.note_mentions.Given as goal

abbrev pub invariant-loop-mention : goal.invariant-loop-mention
invariant-loop-mention l = record {
  file : l.self.file ≡ l.initial.self.file;
  all : earliest l.self.first (flat_map (mention_faults (names_in l.self.file.source) l.self.file.definitions.now.decls.now l.sight l.types) (drop l.mention-index l.mentions))
      ≡ earliest l.initial.self.first (flat_map (mention_faults (names_in l.initial.self.file.source) l.initial.self.file.definitions.now.decls.now l.fn.sight l.fn.types) l.fn.mentions);
}
