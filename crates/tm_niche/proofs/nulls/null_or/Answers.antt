use Rattle.std.proofs.Common.{rules, ℕ, Bool, ◌≡◌, ◌+◌, ◌≤◌, ◌⊎◌, ◌↔◌, replicate}
use Rattle.tm_base.specs.declared.cell.Cell.TheVariants.{Byte}
use Rattle.tm_base.specs.Cells.{Word}
use Rattle.tm_base.specs.Shapes.{leaves_of, HasNoPrivate}
use Rattle.tm_base.specs.Transmutes.{holds}
use Rattle.tm_base.specs.Trees.{TreeWord}
use Rattle.tm_niche.specs.Forms.{null_form}
use Rattle.tm_niche.proofs.FormLemmas.{of-form}
use Rattle.tm_niche.proofs.NonzeroLemmas.{null-leaves, null-private, null-words}
use Rattle.tm_niche.proofs.nulls.null_or.Goals as goal

pub returns-clause-form : goal.returns-clause-form
unfolding null_form
returns-clause-form c = search rules

pub returns-clause-words : goal.returns-clause-words
returns-clause-words c =
    of-form c.one_of.result (null_form c.args.size c.args.tree)
    (λ made. (pointer : ℕ) (A : ℕ → ℕ → Bool) (keep : Bool) (w : Word) → TreeWord pointer (holds A) keep made w ↔ ((w ≡ replicate c.args.size (Byte 0)) ⊎ TreeWord pointer (holds A) keep c.args.tree w))
    (returns-clause-form c) (λ pointer A keep w. null-words pointer (holds A) keep c.args.size c.args.tree w)

pub returns-clause-leaves : goal.returns-clause-leaves
returns-clause-leaves c =
    of-form c.one_of.result (null_form c.args.size c.args.tree) (λ made. (pointer : ℕ) → leaves_of pointer made ≤ leaves_of pointer c.args.tree + c.args.size)
    (returns-clause-form c) (λ pointer. null-leaves pointer c.args.size c.args.tree)

pub returns-clause-public : goal.returns-clause-public
returns-clause-public c = λ h. of-form c.one_of.result (null_form c.args.size c.args.tree) HasNoPrivate (returns-clause-form c) (null-private c.args.size c.args.tree h)
