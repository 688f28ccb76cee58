use Rattle.std.proofs.Common.{sym, ap, ◌∙◌, subst, take, get_or, ℕ, List}
use Rattle.std.proofs.lemmas.List.{take_more}
use Rattle.tm_base.specs.declared.cell.Cell.TheVariants.{Byte}
use Rattle.tm_base.specs.Cells.{Word}
use Rattle.tm_auto.specs.declared.edge.Symbol.{Symbol}
use Rattle.tm_auto.specs.Automata.{IsStep, reached}
use Rattle.tm_auto.specs.Sets.{symbol_of}
use Rattle.tm_witness.proofs.reached.reached_by.Goals as goal

pub loop-cell-preserved : goal.loop-cell-preserved
loop-cell-preserved g c =
    let A = g.M.RefTest.test c.args.refs.now in
    let auto = c.args.auto.now in
    let cells = c.args.cells.now in
    let at = c.loop-cell.cell-index in
    let before = take at cells in
    let cell = get_or cells at (Byte 0) in
    let set = c.in_ok-states-2.states in
    let by_cell : IsStep A auto c.loop-cell.states (symbol_of cell) set = subst (λ (x : Symbol). IsStep A auto c.loop-cell.states x set) c.of.ensures c.in_ok-states-2.ensures.step in
    let from_word : IsStep A auto (reached A auto before) (symbol_of cell) set = subst (λ (states : List ℕ). IsStep A auto states (symbol_of cell) set) c.loop-cell.invariant.0 by_cell in
    (c.law.ensures.reads.steps A before cell set from_word ∙ ap (λ (w : Word). reached A auto w) (sym (take_more cells at (Byte 0) c.loop-cell-test.true)), c.in_ok-states-2.ensures.states)
