use Rattle.std.proofs.Common.{◌≡◌, ◌<◌, ◌^◌, ◌&&◌, ℕ, subst, sym, ap, ◌∙◌, Some, length, true}
use Rattle.tm_base.specs.Layout.{prim_size}
use Rattle.tm_base.specs.Profiles.{number_of}
use Rattle.tm_check.specs.Numbers.{begins_scalar, may_be_bytes, number_within, prim_begins}
use Rattle.tm_check.specs.Runs.{word_of}
use Rattle.tm_check.proofs.RunLemmas.{all-told, within-bytes, within-number, within-small, within-told}
use Rattle.tm_check.proofs.number.primitive.Goals as goal

pub begins_scalar-requires-clause-small : goal.begins_scalar-requires-clause-small
begins_scalar-requires-clause-small c =
    let is : number_within c.args.profile c.args.size (word_of c.args.run) ≡ Some c.in-Some.number = sym c.number_within.ensures ∙ c.in-Some.is in
    let size : c.args.size ≡ 4 = c.requires ∙ ap (prim_size c.args.profile) c.in-Char.is in
    subst (λ (n : ℕ). c.in-Some.number < 256 ^ n) size (within-small c.args.profile c.args.size (word_of c.args.run) c.in-Some.number is)

pub returns-in-Char : goal.returns-in-Char
returns-in-Char c =
    let w = word_of c.args.run in
    let is : number_within c.args.profile c.args.size w ≡ Some c.in-Some.number = sym c.number_within.ensures ∙ c.in-Some.is in
    let size : c.args.size ≡ 4 = c.requires ∙ ap (prim_size c.args.profile) c.in-Char.is in
    let bytes : may_be_bytes 4 w ≡ true = ap (λ (n : ℕ). may_be_bytes n w) (sym size) ∙ within-bytes c.args.profile c.args.size w c.in-Some.number is in
    let told : w ≡ c.args.run.told.now = all-told c.args.run.told.now c.args.run.uninit (within-told c.args.profile c.args.size c.args.run.uninit c.in-Some.number c.args.run.told.now is) in
    c.begins_scalar.ensures
    ∙ ap (λ (k : ℕ). begins_scalar c.args.profile k c.in-Some.number) (sym (ap length told))
    ∙ ap (begins_scalar c.args.profile (length w)) (within-number c.args.profile c.args.size w c.in-Some.number is)
    ∙ ap (λ b. b && begins_scalar c.args.profile (length w) (number_of c.args.profile w)) (sym bytes)
    ∙ ap (λ p. prim_begins c.args.profile p w) (sym c.in-Char.is)
