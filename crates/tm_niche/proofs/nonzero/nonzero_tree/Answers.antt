use Rattle.std.proofs.Common.{ℕ, Bool, ◌≡◌, ◌+◌, ◌-◌, ◌<◌, ◌≤◌, ◌↔◌, ◌∙◌, ap, subst, [], ◌∷◌, ◌++◌, IfOk}
use Rattle.tm_base.specs.declared.profile.Profile.{Profile}
use Rattle.tm_base.specs.Cells.{Word}
use Rattle.tm_base.specs.Profiles.{number_of}
use Rattle.tm_base.specs.Shapes.{leaves_of, HasNoPrivate}
use Rattle.tm_base.specs.Transmutes.{holds}
use Rattle.tm_base.specs.Trees.{TreeWord}
use Rattle.tm_base.specs.Valid.{AreBytes}
use Rattle.tm_niche.specs.Forms.{nonzero_form, nonzero_ways, one_of}
use Rattle.tm_niche.proofs.FormLemmas.{of-form}
use Rattle.tm_niche.proofs.MemberLemmas.{ways-end, ways-step}
use Rattle.tm_niche.proofs.NonzeroLemmas.{nonzero-leaves, nonzero-private, nonzero-words}
use Rattle.tm_niche.proofs.nonzero.nonzero_tree.Goals as goal

pub loop-before-preserved : goal.loop-before-preserved
loop-before-preserved c =
    ap (λ ts. ts ++ nonzero_ways (c.loop-before.before + 1) (c.args.size - (c.loop-before.before + 1)))
    (c.in_ok-push.ensures ∙ ap (λ tree. c.loop-before.ways ++ (tree ∷ [])) c.in_ok-first_nonzero.ensures)
    ∙ ways-step c.loop-before.before c.args.size c.loop-before.ways c.loop-before-test.true
    ∙ c.loop-before.invariant

pub returns-clause-form : goal.returns-clause-form
unfolding nonzero_form
returns-clause-form c =
    subst (λ ts. IfOk c.one_of.result (λ tree. tree ≡ one_of ts)) (ways-end c.loop-before.before c.args.size c.loop-before.ways c.loop-before-test.false c.loop-before.invariant) c.one_of.ensures

pub returns-clause-words : goal.returns-clause-words
returns-clause-words c =
    of-form c.one_of.result (nonzero_form c.args.size)
    (λ tree. (profile : Profile) (pointer : ℕ) (A : ℕ → ℕ → Bool) (keep : Bool) (w : Word) → TreeWord pointer (holds A) keep tree w ↔ (AreBytes c.args.size w × (0 < number_of profile w)))
    (returns-clause-form c) (λ profile pointer A keep w. nonzero-words pointer (holds A) keep profile c.args.size w)

pub returns-clause-leaves : goal.returns-clause-leaves
returns-clause-leaves c =
    of-form c.one_of.result (nonzero_form c.args.size) (λ tree. (pointer : ℕ) → leaves_of pointer tree ≤ 256) (returns-clause-form c) (λ pointer. nonzero-leaves pointer c.args.size c.requires)

pub returns-clause-public : goal.returns-clause-public
returns-clause-public c = of-form c.one_of.result (nonzero_form c.args.size) HasNoPrivate (returns-clause-form c) (nonzero-private c.args.size)
