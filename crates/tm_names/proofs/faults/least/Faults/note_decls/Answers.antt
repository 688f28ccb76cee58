use Rattle.std.proofs.Common.{◌+◌, ◌∙◌, arith}
use Rattle.tm_names.proofs.fault_laws.LeastLemmas.{turn}
use Rattle.tm_names.specs.Found.{decl_faults}
use Rattle.tm_names.specs.Least.{earliest}
use Rattle.tm_names.specs.Source.{names_in}
use Rattle.std.specs.List.{flat_map}
use Rattle.tm_names.proofs.faults.least.Faults.note_decls.Goals as goal

pub loop-decl-preserved : goal.loop-decl-preserved
loop-decl-preserved c =
    let file = c.loop-decl.self.file in
    let start = c.args.self.now.file in
    let faults = decl_faults file.source.profile (names_in file.source) file.definitions.now.decls.now in
    let all_faults = flat_map (decl_faults start.source.profile (names_in start.source) start.definitions.now.decls.now) start.definitions.now.decls.now in
    record {
      file = c.note_decl.ensures.file ∙ c.loop-decl.invariant.file;
      all = rw c.note_decl.ensures.file (turn faults c.loop-decl.self.first c.note_decl.new.self.first (earliest c.args.self.now.first all_faults) start.definitions.now.decls.now
          c.loop-decl.decl-index (c.loop-decl.decl-index + 1) c.decl-item.result c.loop-decl-test.true (omega arith) c.decl-item.is c.in_ok-note_decl.ensures.first c.loop-decl.invariant.all);
    }
