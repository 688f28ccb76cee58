use Rattle.std.proofs.Common.{◌↔◌, IsTrue, subst, Bool}
use Rattle.tm_base.specs.Rules.{source, target}
use Rattle.tm_base.specs.Transmutes.{Fits, IsSourceWord, holds}
use Rattle.tm_base.specs.Worlds.{tables_of}
use Rattle.tm_check.proofs.ExactLemmas.{else-both, then-both}
use Rattle.tm_check.proofs.matcher.Matcher.accepts.Goals as goal

pub returns-then-is_value : goal.returns-then-is_value
returns-then-is_value g c =
    let tables = tables_of c.args.self.now.world.now in
    let A = holds (g.M.RefTest.test c.args.self.now.refs.now) in
    let ask = c.args.ask.now in
    let w = c.args.word.now in
    let second = subst (λ (keep : Bool). IsTrue c.takes_fitted.result ↔ Fits A keep (target tables ask) w) c.requires.safety c.takes_fitted.ensures in
    then-both (IsSourceWord (source tables ask) w) (Fits A ask.assume.safety (target tables ask) w) c.is_value.result c.takes_fitted.result c.is_value.ensures second c.if-is_value.true

pub returns-else-is_value : goal.returns-else-is_value
returns-else-is_value g c =
    let tables = tables_of c.args.self.now.world.now in
    let A = holds (g.M.RefTest.test c.args.self.now.refs.now) in
    let ask = c.args.ask.now in
    let w = c.args.word.now in
    else-both (IsSourceWord (source tables ask) w) (Fits A ask.assume.safety (target tables ask) w) c.is_value.result c.is_value.ensures c.if-is_value.false
