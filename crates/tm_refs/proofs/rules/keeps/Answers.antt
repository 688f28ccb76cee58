use Rattle.std.proofs.Common.{sym}
use Rattle.tm_base.specs.Worlds.{tables_of}
use Rattle.tm_refs.proofs.RuleLemmas.{interior-open, interior-shut}
use Rattle.tm_refs.proofs.rules.keeps.Goals as goal

pub returns-then-not-interior : goal.returns-then-not-interior
returns-then-not-interior c =
    let tables = tables_of c.args.world.now in
    rw c.in-Interior.is
    (interior-open tables c.args.assume c.args.source.now c.args.target.now _ c.if-target.false
    (sym (c.if-not-interior.ensures.interior tables c.requires.made c.requires.source.over))
    (c.interior-then-not-interior.ensures.interior tables c.requires.made c.requires.target.over))

pub returns-else-not-interior : goal.returns-else-not-interior
returns-else-not-interior c =
    let tables = tables_of c.args.world.now in
    rw c.in-Interior.is
    (interior-shut tables c.args.assume c.args.source.now c.args.target.now _ c.if-target.false c.if-not-interior.false
    (c.interior.ensures.interior tables c.requires.made c.requires.source.over))
