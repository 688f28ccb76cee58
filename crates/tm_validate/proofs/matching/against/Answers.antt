use Rattle.std.proofs.Common.{◌≡◌, ◌∙◌, true, sym, subst, ap, length}
use Rattle.tm_base.specs.Cells.{Word, fit}
use Rattle.tm_base.specs.Faults.{has_no_layout}
use Rattle.tm_base.specs.Layout.{size_of}
use Rattle.tm_base.specs.Tables.{expanded_in}
use Rattle.tm_base.specs.Worlds.{tables_of}
use Rattle.tm_check.proofs.ExactLemmas.{fit-long}
use Rattle.tm_validate.specs.Against.{bytes_of}
use Rattle.tm_validate.specs.Matched.{IsMatch}
use Rattle.tm_validate.proofs.AlikeLemmas.{Free}
use Rattle.tm_validate.proofs.FitLemmas.{free-fit}
use Rattle.tm_validate.proofs.MatchLemmas.{match-all}
use Rattle.tm_validate.proofs.matching.against.Goals as goal

pub unreachable-requires : goal.unreachable-requires
unreachable-requires c =
    let tables = tables_of c.args.world.now in
    let none : has_no_layout (expanded_in tables c.args.g.now) ≡ true = (c.in-Err.ensures.answer tables c.requires.made c.requires.over).0 in
    let sound = c.requires.judged in
    cc

pub match_cells-requires-clause-free : goal.match_cells-requires-clause-free
match_cells-requires-clause-free c =
    subst Free (sym (c.as_slice.ensures.value ∙ c.in_ok-cells.ensures)) (free-fit c.args.bytes.now c.in-Ok.layout.size c.type_inv.bytes)

pub match_cells-requires-clause-sized : goal.match_cells-requires-clause-sized
match_cells-requires-clause-sized c = (c.in-Ok.ensures.answer (tables_of c.args.world.now) c.requires.made c.requires.over).1

pub match_cells-requires-clause-long : goal.match_cells-requires-clause-long
match_cells-requires-clause-long c =
    ap length (c.as_slice.ensures.value ∙ c.in_ok-cells.ensures) ∙ fit-long (bytes_of c.args.bytes.now) c.in-Ok.layout.size

pub returns : goal.returns
returns c = record {
  exact = λ test.
      let t = expanded_in (tables_of c.args.world.now) c.args.g.now in
      let size : c.in-Ok.layout.size ≡ size_of t = (c.in-Ok.ensures.answer (tables_of c.args.world.now) c.requires.made c.requires.over).1 in
      let cells : c.as_slice.result.now ≡ fit (bytes_of c.args.bytes.now) (size_of t) = c.as_slice.ensures.value ∙ c.in_ok-cells.ensures ∙ ap (fit (bytes_of c.args.bytes.now)) size in
      match-all test c.args.keep_private t c.requires.judged c.args.bytes.now (free-fit c.args.bytes.now (size_of t) c.type_inv.bytes) c.match_cells.result
      (subst (λ (w : Word). IsMatch c.args.keep_private t w c.match_cells.result) cells c.match_cells.ensures);
}
