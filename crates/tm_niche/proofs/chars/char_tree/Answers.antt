use Rattle.std.proofs.Common.{rules, ℕ, Bool, ◌≤◌, ◌↔◌}
use Rattle.tm_base.specs.declared.ground.Primitive.TheVariants.{Char}
use Rattle.tm_base.specs.Cells.{Word}
use Rattle.tm_base.specs.Shapes.{leaves_of, HasNoPrivate}
use Rattle.tm_base.specs.Transmutes.{holds}
use Rattle.tm_base.specs.Trees.{TreeWord}
use Rattle.tm_base.specs.Valid.{PrimValid}
use Rattle.tm_niche.specs.Forms.{char_form}
use Rattle.tm_niche.proofs.CharLemmas.{char-leaves, char-private, char-words}
use Rattle.tm_niche.proofs.FormLemmas.{of-form}
use Rattle.tm_niche.proofs.chars.char_tree.Goals as goal

pub returns-clause-form : goal.returns-clause-form
unfolding char_form
returns-clause-form c = search rules

pub returns-clause-words : goal.returns-clause-words
returns-clause-words c =
    of-form c.one_of.result (char_form c.args.profile)
    (λ tree. (pointer : ℕ) (A : ℕ → ℕ → Bool) (keep : Bool) (w : Word) → TreeWord pointer (holds A) keep tree w ↔ PrimValid c.args.profile Char w)
    (returns-clause-form c) (λ pointer A keep w. char-words pointer (holds A) keep c.args.profile w)

pub returns-clause-leaves : goal.returns-clause-leaves
returns-clause-leaves c =
    of-form c.one_of.result (char_form c.args.profile) (λ tree. (pointer : ℕ) → leaves_of pointer tree ≤ 64) (returns-clause-form c) (λ pointer. char-leaves pointer c.args.profile)

pub returns-clause-public : goal.returns-clause-public
returns-clause-public c = of-form c.one_of.result (char_form c.args.profile) HasNoPrivate (returns-clause-form c) (char-private c.args.profile)
