use Rattle.std.proofs.Common.{ℕ, Bool, ◌∙◌, ◌↔◌, sym, subst}
use Rattle.tm_base.specs.Cells.{Word}
use Rattle.tm_base.specs.Profiles.{pointer_size}
use Rattle.tm_base.specs.Shapes.{HasSize}
use Rattle.tm_base.specs.Transmutes.{holds}
use Rattle.tm_base.specs.Trees.{TreeWord}
use Rattle.tm_base.specs.Worlds.{tables_of}
use Rattle.tm_auto.specs.Automata.{AutoWord, Automaton}
use Rattle.tm_refs.specs.Pointees.{IsAutomatonOf}
use Rattle.tm_refs.proofs.CastLemmas.{IfOk-three, automaton-of, pruned-sized}
use Rattle.tm_base.proofs.HeldLemmas.{judged-laid_out}
use Rattle.tm_refs.proofs.automaton.automaton_of.Goals as goal

pub layout-size-requires-clause-has : goal.layout-size-requires-clause-has
layout-size-requires-clause-has c = record { over = c.requires.over; sound = judged-laid_out (tables_of c.args.world.now) c.args.g.now c.requires.over c.requires.judged }

pub tree_of-requires-clause-judged : goal.tree_of-requires-clause-judged
tree_of-requires-clause-judged c = judged-laid_out (tables_of c.args.world.now) c.args.g.now c.requires.over c.requires.judged

pub build-requires-clause-sized : goal.build-requires-clause-sized
build-requires-clause-sized c =
    let tables = tables_of c.args.world.now in
    let tree = c.in_ok-tree.tree in
    subst (λ (n : ℕ). HasSize n c.layout-size.result.size tree) (sym c.pointer_size.ensures)
    (subst (λ (n : ℕ). HasSize (pointer_size tables.profile) n tree) (sym c.layout-size.ensures.size)
    (pruned-sized tables c.args.keep_private c.args.g.now c.in_ok-tree_of.field-0 c.in_ok-tree_of.ensures.tree tree c.in_ok-tree.ensures.words))

pub returns-clause-automaton : goal.returns-clause-automaton
returns-clause-automaton c =
    let tables = tables_of c.args.world.now in
    let tree = c.in_ok-tree.tree in
    IfOk-three c.build.result _ _ _ (IsAutomatonOf tables c.args.keep_private c.args.g.now)
    (λ (auto : Automaton) size pointer words.
    automaton-of tables c.args.keep_private c.args.g.now c.in_ok-tree_of.field-0 c.in_ok-tree_of.ensures.tree tree c.in_ok-tree.ensures.words auto
    (size ∙ c.layout-size.ensures.size) (pointer ∙ c.pointer_size.ensures)
    (subst (λ (n : ℕ). (A : ℕ → ℕ → Bool) (k : Bool) (w : Word) → TreeWord n (holds A) k tree w ↔ AutoWord (holds A) auto w) c.pointer_size.ensures words))
    c.build.ensures.size c.build.ensures.pointer c.build.ensures.words
