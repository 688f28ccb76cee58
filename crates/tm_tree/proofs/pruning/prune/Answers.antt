use Rattle.std.proofs.Common.{ℕ, Bool, ◌≤◌, ◌↔◌}
use Rattle.tm_base.specs.Cells.{Word}
use Rattle.tm_base.specs.Shapes.{leaves_of, HasNoChoice, HasNoPrivate}
use Rattle.tm_base.specs.Transmutes.{holds}
use Rattle.tm_base.specs.Trees.{TreeWord}
use Rattle.tm_niche.proofs.FormLemmas.{of-form}
use Rattle.tm_tree.specs.Pruned.{pruned}
use Rattle.tm_tree.proofs.PruneLemmas.{pruned-leaves, pruned-public, pruned-single, pruned-words}
use Rattle.tm_tree.proofs.pruning.prune.Goals as goal

pub returns-clause-public : goal.returns-clause-public
returns-clause-public c = of-form c.pruned.result (pruned c.args.keep_private c.args.tree) HasNoPrivate c.pruned.ensures (pruned-public c.args.keep_private c.args.tree)

pub returns-clause-words : goal.returns-clause-words
returns-clause-words c =
    of-form c.pruned.result (pruned c.args.keep_private c.args.tree)
    (λ made. (pointer : ℕ) (A : ℕ → ℕ → Bool) (keep : Bool) (w : Word) → TreeWord pointer (holds A) keep made w ↔ TreeWord pointer (holds A) c.args.keep_private c.args.tree w)
    c.pruned.ensures (λ pointer A keep w. pruned-words c.args.keep_private pointer (holds A) keep c.args.tree w)

pub returns-clause-leaves : goal.returns-clause-leaves
returns-clause-leaves c =
    of-form c.pruned.result (pruned c.args.keep_private c.args.tree) (λ made. (pointer : ℕ) → leaves_of pointer made ≤ leaves_of pointer c.args.tree)
    c.pruned.ensures (λ pointer. pruned-leaves c.args.keep_private pointer c.args.tree)

pub returns-clause-single : goal.returns-clause-single
returns-clause-single c = λ h. of-form c.pruned.result (pruned c.args.keep_private c.args.tree) HasNoChoice c.pruned.ensures (pruned-single c.args.keep_private c.args.tree h)
