use Rattle.std.proofs.Common.{rules, ℕ, Bool, ◌≡◌, ◌↔◌}
use Rattle.tm_base.specs.Cells.{Word}
use Rattle.tm_base.specs.Layout.{prim_size}
use Rattle.tm_base.specs.Shapes.{leaves_of, HasNoChoice, HasNoPrivate}
use Rattle.tm_base.specs.Transmutes.{holds}
use Rattle.tm_base.specs.Trees.{TreeWord}
use Rattle.tm_base.specs.Valid.{IsTag}
use Rattle.tm_niche.specs.Forms.{tag_form}
use Rattle.tm_niche.proofs.FormLemmas.{of-form}
use Rattle.tm_niche.proofs.TagLemmas.{fits-small, tag-leaves, tag-private, tag-single, tag-words}
use Rattle.tm_niche.proofs.tags.tag_tree.Goals as goal

pub returns-clause-form : goal.returns-clause-form
unfolding tag_form
returns-clause-form c = search rules

pub returns-clause-words : goal.returns-clause-words
returns-clause-words c =
    of-form c.in_turn.result (tag_form c.args.profile (prim_size c.args.profile c.args.prim) c.args.value)
    (λ tree. (pointer : ℕ) (A : ℕ → ℕ → Bool) (keep : Bool) (w : Word) → TreeWord pointer (holds A) keep tree w ↔ IsTag c.args.profile (prim_size c.args.profile c.args.prim) c.args.value w)
    (returns-clause-form c)
    (λ pointer A keep w. tag-words pointer (holds A) keep c.args.profile (prim_size c.args.profile c.args.prim) c.args.value w (fits-small c.args.profile c.args.prim c.args.value c.requires.fits))

pub returns-clause-leaves : goal.returns-clause-leaves
returns-clause-leaves c =
    of-form c.in_turn.result (tag_form c.args.profile (prim_size c.args.profile c.args.prim) c.args.value) (λ tree. (pointer : ℕ) → leaves_of pointer tree ≡ prim_size c.args.profile c.args.prim)
    (returns-clause-form c) (λ pointer. tag-leaves pointer c.args.profile (prim_size c.args.profile c.args.prim) c.args.value)

pub returns-clause-public : goal.returns-clause-public
returns-clause-public c =
    of-form c.in_turn.result (tag_form c.args.profile (prim_size c.args.profile c.args.prim) c.args.value) HasNoPrivate
    (returns-clause-form c) (tag-private c.args.profile (prim_size c.args.profile c.args.prim) c.args.value)

pub returns-clause-single : goal.returns-clause-single
returns-clause-single c =
    of-form c.in_turn.result (tag_form c.args.profile (prim_size c.args.profile c.args.prim) c.args.value) HasNoChoice
    (returns-clause-form c) (tag-single c.args.profile (prim_size c.args.profile c.args.prim) c.args.value)
