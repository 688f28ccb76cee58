use Rattle.std.proofs.Common.{◌≡◌, ◌==◌, ℕ, ap, ◌∙◌, length}
use Rattle.tm_base.specs.Layout.{size_of}
use Rattle.tm_base.specs.Tables.{expanded_in}
use Rattle.tm_base.specs.Worlds.{tables_of}
use Rattle.tm_check.specs.Begins.{begins}
use Rattle.tm_check.specs.Runs.{word_of}
use Rattle.tm_check.proofs.ExactLemmas.{valid-exact}
use Rattle.tm_check.proofs.StepLemmas.{made-so, unmade}
use Rattle.tm_check.proofs.matcher.Matcher.takes.Goals as goal

pub returns-then-has : goal.returns-then-has
returns-then-has g c =
    let A = g.M.RefTest.test c.args.self.now.refs.now in
    let keep = c.args.self.now.keep_private in
    let t = expanded_in (tables_of c.args.self.now.world.now) c.args.g.now in
    let w = word_of c.args.run in
    let sized : c.has.result ≡ (length w == size_of t) = c.has.ensures ∙ ap (λ (n : ℕ). length w == n) c.size.ensures in
    valid-exact A keep t c.requires.sound w c.begins.result (made-so c.begins.result c.has.result (length w == size_of t) (begins A keep t w) c.begins.ensures sized c.if-has.true)

pub returns-else-has : goal.returns-else-has
returns-else-has g c =
    let A = g.M.RefTest.test c.args.self.now.refs.now in
    let keep = c.args.self.now.keep_private in
    let t = expanded_in (tables_of c.args.self.now.world.now) c.args.g.now in
    let w = word_of c.args.run in
    let sized : c.has.result ≡ (length w == size_of t) = c.has.ensures ∙ ap (λ (n : ℕ). length w == n) c.size.ensures in
    valid-exact A keep t c.requires.sound w c.has.result (unmade c.has.result (length w == size_of t) (begins A keep t w) sized c.if-has.false)
