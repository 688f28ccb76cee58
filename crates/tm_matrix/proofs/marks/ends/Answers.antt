use Rattle.std.proofs.Common.{◌∙◌, subst}
use Rattle.tm_base.specs.Worlds.{tables_of}
use Rattle.tm_matrix.specs.Known.{IsBytesAnswer}
use Rattle.tm_matrix.specs.Matrix.{IsMark, question}
use Rattle.tm_matrix.proofs.MarkLemmas.{no_layout-ends}
use Rattle.tm_matrix.proofs.marks.ends.Goals as goal

pub returns-in-None-clause-ends : goal.returns-in-None-clause-ends
returns-in-None-clause-ends g c =
    let tables = tables_of c.args.world.now in
    let known = c.args.known.now in
    no_layout-ends tables known c.requires.known (subst (λ found. IsBytesAnswer tables known.ground found) c.in-None.is c.in_ok-bytes.ensures)

pub returns-clause-ends : goal.returns-clause-ends
returns-clause-ends g c =
    let tables = tables_of c.args.world.now in
    let known = c.args.known.now in
    let told = c.requires.told in
    let found = subst (λ found. IsBytesAnswer tables known.ground found) c.in-Some.is c.in_ok-bytes.ensures in (
      subst (λ b. IsMark tables (question b known.ground) c.in_ok-from.from) found.1
          (subst (λ t. IsMark t (question c.in-Some.bytes.ground known.ground) c.in_ok-from.from) told c.in_ok-from.ensures.mark),
      subst (λ b. IsMark tables (question known.ground b) c.in_ok-to.to) found.1
          (subst (λ t. IsMark t (question known.ground c.in-Some.bytes.ground) c.in_ok-to.to) (c.in_ok-from.ensures.world ∙ told) c.in_ok-to.ensures.mark),
    )
