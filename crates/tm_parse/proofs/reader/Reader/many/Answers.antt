use Rattle.std.proofs.Common.{rules, ◌≡◌, ◌+◌, ◌-◌, ◌<◌, sym, ap, ◌∙◌, true, length, arith}
use Rattle.tm_parse.specs.Combinators.{mapped, to}
use Rattle.tm_parse.proofs.reading.Loops.{turn_ends, turn_spent, turn_stops, turn_next, mapped_stops}
use Rattle.tm_parse.proofs.reader.Reader.many.Goals as goal

pub returns-then-not-begins : goal.returns-then-not-begins
returns-then-not-begins g c =
    let rule = g.R.Rule.rule c.args.rule.now in
    turn_ends _ (to (λ v. (v, true)) rule).read _ _ (length c.args.self.now.rest.now - c.loop.counter) _ _ c.loop.invariant (sym c.begins.ensures ∙ c.if-not-begins.true)

pub returns-in_err-read : goal.returns-in_err-read
returns-in_err-read g c =
    let rule = g.R.Rule.rule c.args.rule.now in
    let left : 0 < length c.args.self.now.rest.now - c.loop.counter = omega (arith, c.loop-test.true) in
    let stops = turn_stops _ (to (λ v. (v, true)) rule).read _ _ (length c.args.self.now.rest.now - c.loop.counter) _ _ c.read.new.reader _ c.loop.invariant left (sym c.begins.ensures ∙ c.if-not-begins.false) (mapped_stops _ _ c.read.new.reader _ c.in_err-read.ensures) in
    search (rules, stops)

pub loop-preserved : goal.loop-preserved
loop-preserved g c =
    let rule = g.R.Rule.rule c.args.rule.now in
    let turns : (length c.args.self.now.rest.now - (c.loop.counter + 1)) + 1 ≡ length c.args.self.now.rest.now - c.loop.counter = omega (arith, c.loop-test.true) in
    turn_next _ (to (λ v. (v, true)) rule).read _ _ _ _ _ _ _ _ _ _ c.loop.invariant turns (sym c.begins.ensures ∙ c.if-not-begins.false) (ap (mapped (λ v. (v, true))) c.in_ok-read.ensures) c.in_ok-add.ensures.added

pub returns : goal.returns
returns g c =
    let rule = g.R.Rule.rule c.args.rule.now in
    let spent : length c.args.self.now.rest.now - c.loop.counter ≡ 0 = omega (arith, c.loop-test.false, c.loop.auto.counter-end) in
    turn_spent _ (to (λ v. (v, true)) rule).read _ _ (length c.args.self.now.rest.now - c.loop.counter) _ _ c.loop.invariant spent
