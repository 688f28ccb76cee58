use Rattle.std.proofs.Common.{◌↔◌, IsTrue, subst, Bool}
use Rattle.tm_base.specs.Rules.{source, target}
use Rattle.tm_base.specs.Transmutes.{IsSourceWord, holds}
use Rattle.tm_base.specs.Viable.{RefusesAt}
use Rattle.tm_base.specs.Worlds.{tables_of}
use Rattle.tm_check.proofs.ExactLemmas.{else-both, then-both}
use Rattle.tm_check.proofs.matcher.Matcher.refuses.Goals as goal

pub returns-then-is_value : goal.returns-then-is_value
returns-then-is_value g c =
    let tables = tables_of c.args.self.now.world.now in
    let A = holds (g.M.RefTest.test c.args.self.now.refs.now) in
    let ask = c.args.ask.now in
    let w = c.args.word.now in
    let second = subst (λ (keep : Bool). IsTrue c.refuses_at.result ↔ RefusesAt A keep (target tables ask) w c.args.offset) c.requires.safety c.refuses_at.ensures in
    then-both (IsSourceWord (source tables ask) w) (RefusesAt A ask.assume.safety (target tables ask) w c.args.offset) c.is_value.result c.refuses_at.result c.is_value.ensures second c.if-is_value.true

pub returns-else-is_value : goal.returns-else-is_value
returns-else-is_value g c =
    let tables = tables_of c.args.self.now.world.now in
    let A = holds (g.M.RefTest.test c.args.self.now.refs.now) in
    let ask = c.args.ask.now in
    let w = c.args.word.now in
    else-both (IsSourceWord (source tables ask) w) (RefusesAt A ask.assume.safety (target tables ask) w c.args.offset) c.is_value.result c.is_value.ensures c.if-is_value.false
