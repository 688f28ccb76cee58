use Rattle.std.proofs.Common.{◌≡◌, ℕ, ◌<◌, ◌∙◌, false, ap, slice_index_or}
use Rattle.std.specs.List.{list_any}
use Rattle.tm_base.specs.Cells.{Word}
use Rattle.tm_base.specs.Tables.{expanded_in}
use Rattle.tm_base.specs.Worlds.{tables_of}
use Rattle.tm_walk.proofs.NextLayerLemmas.{on_ok}
use Rattle.tm_refute.specs.Asking.{is_of}
use Rattle.tm_refute.specs.Chosen.{shown}
use Rattle.tm_refute.proofs.making.AskingLemmas.{asked-too}
use Rattle.tm_refute.proofs.refuting.maker.Maker.ask.Goals as goal

pub returns : goal.returns
returns c =
    let self = c.args.self.now in
    let world = self.world.now in
    let t = c.args.t.now in
    let piece = c.args.piece.now in
    let marked : (r : ℕ) → r < 64 → slice_index_or c.occurring-occurring.result r false ≡ list_any (λ cell. is_of cell r) (shown (expanded_in (tables_of world) t) piece)
    = λ r below. c.occurring-occurring.ensures r below ∙ ap (λ (w : Word). list_any (λ cell. is_of cell r) w) (c.as_slice.ensures.value ∙ c.in_ok-shown.ensures) in
    on_ok c.ask_all.result (asked-too world self.assume self.compat.now c.requires.making.solved c.args.limit t c.requires.has.over piece
    c.requires.value c.occurring-occurring.result c.leaves_of-leaves.result c.args.asked.now c.ask_all.new.asked marked c.leaves_of-leaves.ensures) c.ask_all.ensures
