use Rattle.std.proofs.Common.{◌≡◌, ◌∙◌, ℕ, ◌+◌, ap, min, subst, IfOk}
use Rattle.std.proofs.lemmas.Bool.{both_ways}
use Rattle.tm_base.specs.Cells.{Word, fit}
use Rattle.tm_base.specs.Layout.{size_of}
use Rattle.tm_base.specs.Tables.{expanded_in}
use Rattle.tm_base.specs.Worlds.{tables_of}
use Rattle.tm_refute.proofs.checking.VerifyLemmas.{fit-front}
use Rattle.tm_refute.proofs.showing.cells_shown.Goals as goal

pub unreachable-requires : goal.unreachable-requires
unreachable-requires c =
    both_ways _ c.requires.has.sound (c.in_default.ensures.answer (tables_of c.args.world.now) c.requires.made c.requires.has.over).0

-- the first cells of the word as the type holds it are the word as so many bytes hold it
pub returns : goal.returns
returns c =
    let size = size_of (expanded_in (tables_of c.args.world.now) c.args.t.now) in
    let place = c.args.piece.now.offset in
    let word = c.args.piece.now.word in
    let size_is = (c.in-Ok.ensures.answer (tables_of c.args.world.now) c.requires.made c.requires.has.over).1 in
    subst (λ (w : Word). IfOk c.fitted.result (λ cells. cells.items ≡ w))
    (ap (λ (w : Word). fit w c.min-count.result) c.as_slice.ensures
    ∙ fit-front (place + 1) size c.min-count.result word (c.min-count.ensures ∙ ap (λ (n : ℕ). min n (place + 1)) size_is))
    c.fitted.ensures
