use Rattle.std.proofs.Common.{sym, ◌∙◌, subst, take, ◌+◌}
use Rattle.std.specs.List.{AllZip}
use Rattle.tm_base.specs.Worlds.{tables_of}
use Rattle.tm_matrix.specs.Known.{grounds}
use Rattle.tm_matrix.specs.Matrix.{IsLine}
use Rattle.tm_matrix.proofs.ZipLemmas.{AllZip-more}
use Rattle.tm_matrix.proofs.marks.lines.Goals as goal

pub line_of-requires-clause-told : goal.line_of-requires-clause-told
line_of-requires-clause-told g c = c.loop-known.invariant.world ∙ c.requires.told

pub loop-known-preserved : goal.loop-known-preserved
loop-known-preserved g c =
    let tables = tables_of c.args.world.now in
    let types = c.args.types.now in
    let i = c.loop-known.known-index in
    let line = c.in_ok-line_of.field-0 in
    record {
      each =
          subst (λ zs. AllZip (IsLine tables (grounds types)) (grounds (take (i + 1) types)) zs) (sym c.in_ok-add.ensures.added)
          (AllZip-more (IsLine tables (grounds types)) (λ known. known.ground) types c.loop-known.lines i c.known-item.result line c.loop-known-test.true c.loop-known.invariant.each
          (subst (λ x. IsLine tables (grounds types) x.ground line) c.known-item.is c.in_ok-line_of.ensures.line));
      world = c.in_ok-line_of.ensures.world ∙ c.loop-known.invariant.world;
    }
