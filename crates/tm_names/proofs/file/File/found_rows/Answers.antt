use Rattle.std.proofs.Common.{◌∙◌, ◌+◌, [], ◌∷◌, ◌++◌, ap, arith, map}
use Rattle.tm_names.proofs.Members.{next_found}
use Rattle.tm_names.specs.Held.{parameter_flags}
use Rattle.tm_names.specs.Source.{names_in}
use Rattle.tm_names.proofs.file.File.found_rows.Goals as goal

pub loop-decl-preserved : goal.loop-decl-preserved
loop-decl-preserved c =
    let decls = c.args.self.now.definitions.now.decls.now in
    let flags = parameter_flags (names_in c.args.self.now.source) decls c.args.own.now in
    next_found flags c.loop-decl.rows c.add.new.list (map flags decls) decls c.loop-decl.decl-index (c.loop-decl.decl-index + 1) c.decl-item.result
    c.loop-decl-test.true (omega arith) c.decl-item.is (c.in_ok-add.ensures ∙ ap (λ row. c.loop-decl.rows ++ (row ∷ [])) c.in_ok-row.ensures) c.loop-decl.invariant
