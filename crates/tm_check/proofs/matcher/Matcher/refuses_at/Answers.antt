use Rattle.std.proofs.Common.{◌↔◌, ◌<◌, ◌+◌, ◌&&◌, not, IsTrue, subst, sym, ap, arith}
use Rattle.tm_base.specs.Cells.{fit}
use Rattle.tm_base.specs.Layout.{size_of}
use Rattle.tm_base.specs.Tables.{expanded_in}
use Rattle.tm_base.specs.Transmutes.{holds}
use Rattle.tm_base.specs.Viable.{Viable}
use Rattle.tm_base.specs.Worlds.{tables_of}
use Rattle.tm_check.proofs.ExactLemmas.{refused-by, refused-first}
use Rattle.tm_check.proofs.matcher.Matcher.refuses_at.Goals as goal

pub returns-then-goes_on : goal.returns-then-goes_on
returns-then-goes_on g c =
    let A = g.M.RefTest.test c.args.self.now.refs.now in
    let keep = c.args.self.now.keep_private in
    let t = expanded_in (tables_of c.args.self.now.world.now) c.args.g.now in
    let w = c.args.word.now in
    let o = c.args.offset in
    let below : o < size_of t = omega (arith, c.if-offset-size.false, c.size.ensures) in
    let first : IsTrue c.goes_on.result ↔ Viable (holds A) keep t (fit w o) = subst (λ u. IsTrue c.goes_on.result ↔ Viable (holds A) keep t u) c.fit.ensures c.goes_on.ensures in
    let second : IsTrue c.goes_on-then-goes_on.result ↔ Viable (holds A) keep t (fit w (o + 1)) =
    subst (λ u. IsTrue c.goes_on-then-goes_on.result ↔ Viable (holds A) keep t u) c.fit-then-goes_on.ensures c.goes_on-then-goes_on.ensures in
    refused-by A keep t w o below c.goes_on.result c.goes_on-then-goes_on.result first second (not c.goes_on-then-goes_on.result) (ap (λ x. x && not c.goes_on-then-goes_on.result) (sym c.if-goes_on.true))

pub returns-else-goes_on : goal.returns-else-goes_on
returns-else-goes_on g c =
    let A = g.M.RefTest.test c.args.self.now.refs.now in
    let keep = c.args.self.now.keep_private in
    let t = expanded_in (tables_of c.args.self.now.world.now) c.args.g.now in
    let w = c.args.word.now in
    let o = c.args.offset in
    let below : o < size_of t = omega (arith, c.if-offset-size.false, c.size.ensures) in
    let first : IsTrue c.goes_on.result ↔ Viable (holds A) keep t (fit w o) = subst (λ u. IsTrue c.goes_on.result ↔ Viable (holds A) keep t u) c.fit.ensures c.goes_on.ensures in
    refused-first A keep t w o below c.goes_on.result first c.if-goes_on.false
