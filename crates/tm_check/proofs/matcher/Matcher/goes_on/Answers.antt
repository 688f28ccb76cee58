use Rattle.std.proofs.Common.{◌≡◌, nat_le, ℕ, ap, ◌∙◌, length}
use Rattle.tm_base.specs.Cells.{or_own}
use Rattle.tm_base.specs.Layout.{size_of}
use Rattle.tm_base.specs.Tables.{expanded_in}
use Rattle.tm_base.specs.Worlds.{tables_of}
use Rattle.tm_check.specs.Begins.{begins}
use Rattle.tm_check.specs.Runs.{word_of}
use Rattle.tm_check.proofs.ExactLemmas.{viable-exact}
use Rattle.tm_check.proofs.StepLemmas.{made-so, unmade}
use Rattle.tm_check.proofs.matcher.Matcher.goes_on.Goals as goal

pub returns-then-is_within : goal.returns-then-is_within
returns-then-is_within g c =
    let A = g.M.RefTest.test c.args.self.now.refs.now in
    let keep = c.args.self.now.keep_private in
    let t = expanded_in (tables_of c.args.self.now.world.now) c.args.g.now in
    let w = word_of c.args.run in
    let sized : c.is_within.result ≡ nat_le (length w) (size_of t) = c.is_within.ensures ∙ ap (λ (n : ℕ). nat_le (length w) n) c.size.ensures in
    viable-exact A keep t c.requires.sound w c.begins.result
    (made-so c.begins.result c.is_within.result (nat_le (length w) (size_of t)) (begins (or_own A) keep t w) c.begins.ensures sized c.if-is_within.true)

pub returns-else-is_within : goal.returns-else-is_within
returns-else-is_within g c =
    let A = g.M.RefTest.test c.args.self.now.refs.now in
    let keep = c.args.self.now.keep_private in
    let t = expanded_in (tables_of c.args.self.now.world.now) c.args.g.now in
    let w = word_of c.args.run in
    let sized : c.is_within.result ≡ nat_le (length w) (size_of t) = c.is_within.ensures ∙ ap (λ (n : ℕ). nat_le (length w) n) c.size.ensures in
    viable-exact A keep t c.requires.sound w c.is_within.result (unmade c.is_within.result (nat_le (length w) (size_of t)) (begins (or_own A) keep t w) sized c.if-is_within.false)
