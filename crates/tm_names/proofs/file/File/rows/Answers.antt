use Rattle.std.proofs.Common.{◌∙◌, ◌+◌, [], ◌∷◌, ◌++◌, ap, arith, map}
use Rattle.tm_names.proofs.Members.{next_found}
use Rattle.tm_names.specs.Held.{definition_flags}
use Rattle.tm_names.specs.Source.{names_in}
use Rattle.tm_names.proofs.file.File.rows.Goals as goal

pub loop-decl-preserved : goal.loop-decl-preserved
loop-decl-preserved c =
    let decls = c.args.self.now.definitions.now.decls.now in
    let flags = definition_flags (names_in c.args.self.now.source) decls c.args.own.now in
    next_found flags c.loop-decl.rows.items c.push.new.self.items (map flags decls) decls c.loop-decl.decl-index (c.loop-decl.decl-index + 1) c.decl-item.result
    c.loop-decl-test.true (omega arith) c.decl-item.is (c.in_ok-push.ensures.items ∙ ap (λ row. c.loop-decl.rows.items ++ (row ∷ [])) c.in_ok-row.ensures) c.loop-decl.invariant
