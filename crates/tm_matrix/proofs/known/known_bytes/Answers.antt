use Rattle.std.proofs.Common.{ap, sym, ◌∙◌, subst}
use Rattle.tm_base.specs.Worlds.{IsTypeOver, tables_of}
use Rattle.tm_matrix.specs.Matrix.{bytes}
use Rattle.tm_matrix.proofs.MarkLemmas.{bytes-over}
use Rattle.tm_matrix.proofs.known.known_bytes.Goals as goal

pub returns-in-Err : goal.returns-in-Err
returns-in-Err c = (c.in-Err.ensures.answer (tables_of c.args.world.now) c.requires.layouts_are c.requires.type_is).0

pub known_of-requires-clause-type_is : goal.known_of-requires-clause-type_is
known_of-requires-clause-type_is c =
    subst (λ g. IsTypeOver (tables_of c.args.world.now) g) (sym c.in_ok-array.ensures) (bytes-over (tables_of c.args.world.now) c.in-Ok.layout.size)

pub returns : goal.returns
returns c =
    let laid_out = c.in-Ok.ensures.answer (tables_of c.args.world.now) c.requires.layouts_are c.requires.type_is in
    (c.in_ok-known_of.ensures.is, c.in_ok-known_of.ensures.same ∙ (c.in_ok-array.ensures ∙ ap (λ n. bytes n) laid_out.1))
