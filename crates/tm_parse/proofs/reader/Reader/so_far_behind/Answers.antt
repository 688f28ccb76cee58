use Rattle.std.proofs.Common.{rules, ◌≡◌, ◌+◌, ◌-◌, ◌<◌, refl, sym, ap, ◌∙◌, true, false, [], ◌∷◌, ◌++◌, length, arith}
use Rattle.tm_parse.specs.Combinators.{mapped}
use Rattle.tm_parse.specs.Shapes.{behind}
use Rattle.tm_parse.proofs.reading.Loops.{turn_ends, turn_spent, turn_stops, turn_last, turn_next, comma_first, comma_read, comma_stops, item_stops, mapped_stops}
use Rattle.tm_parse.proofs.reading.SoFar.{as_found, turn, all_turns, found_done, found_next, open_next}
use Rattle.tm_parse.proofs.reader.Reader.so_far_behind.Goals as goal

pub returns-then-not-begins : goal.returns-then-not-begins
returns-then-not-begins g c =
    let rule = g.R.Rule.rule c.args.rule.now in
    let so = c.loop.invariant in
    let all = all_turns rule c.args.self.now.counts c.args.self.now.rest.now in
    let none = comma_first rule _ (g.met.R.Rule.begun c.args.rule.now) ∙ sym c.begins.ensures ∙ c.if-not-begins.true in
    let ends = turn_ends (turn rule).first (turn rule).read all so.items (length c.args.self.now.rest.now - c.loop.counter) _ _ so.goes none in
    found_done all _ _ true so.items _ _ so.kept so.more ends

pub returns-in_err-read : goal.returns-in_err-read
returns-in_err-read g c =
    let rule = g.R.Rule.rule c.args.rule.now in
    let so = c.loop.invariant in
    let all = all_turns rule c.args.self.now.counts c.args.self.now.rest.now in
    let left : 0 < length c.args.self.now.rest.now - c.loop.counter = omega (arith, c.loop-test.true) in
    let begins = comma_first rule _ (g.met.R.Rule.begun c.args.rule.now) ∙ sym c.begins.ensures ∙ c.if-not-begins.false in
    let stops = turn_stops (turn rule).first (turn rule).read all so.items (length c.args.self.now.rest.now - c.loop.counter) _ _ c.read.new.reader _ so.goes left begins
    (mapped_stops (λ v. (v, v.1)) _ c.read.new.reader _ (item_stops rule _ _ c.read.new.reader _ c.in_err-read.ensures)) in
    let found = mapped_stops (behind c.args.found) _ c.read.new.reader _ (mapped_stops as_found all c.read.new.reader _ stops) in
    search (rules, found)

pub returns-in_err-accept : goal.returns-in_err-accept
returns-in_err-accept g c =
    let rule = g.R.Rule.rule c.args.rule.now in
    let so = c.loop.invariant in
    let all = all_turns rule c.args.self.now.counts c.args.self.now.rest.now in
    let left : 0 < length c.args.self.now.rest.now - c.loop.counter = omega (arith, c.loop-test.true) in
    let begins = comma_first rule _ (g.met.R.Rule.begun c.args.rule.now) ∙ sym c.begins.ensures ∙ c.if-not-begins.false in
    let stops = turn_stops (turn rule).first (turn rule).read all so.items (length c.args.self.now.rest.now - c.loop.counter) _ _ c.accept.new.self _ so.goes left begins
    (mapped_stops (λ v. (v, v.1)) _ c.accept.new.self _ (comma_stops rule _ _ _ _ _ c.accept.new.self _ c.in_ok-read.ensures c.in_err-accept.ensures)) in
    let found = mapped_stops (behind c.args.found) _ c.accept.new.self _ (mapped_stops as_found all c.accept.new.self _ stops) in
    search (rules, found)

pub returns-then-not-branch : goal.returns-then-not-branch
returns-then-not-branch g c =
    let rule = g.R.Rule.rule c.args.rule.now in
    let so = c.loop.invariant in
    let v = c.in_ok-read.field-0 in
    let all = all_turns rule c.args.self.now.counts c.args.self.now.rest.now in
    let left : 0 < length c.args.self.now.rest.now - c.loop.counter = omega (arith, c.loop-test.true) in
    let begins = comma_first rule _ (g.met.R.Rule.begun c.args.rule.now) ∙ sym c.begins.ensures ∙ c.if-not-begins.false in
    let read = comma_read rule _ _ _ _ _ _ v _ _ c.in_ok-read.ensures c.in_ok-accept.ensures c.if-not-branch.true in
    let last = turn_last (turn rule).first (turn rule).read all so.items (so.items ++ (v, false) ∷ []) (v, false) (length c.args.self.now.rest.now - c.loop.counter) _ _ _ _ so.goes left begins (ap (mapped (λ v. (v, v.1))) read) refl in
    found_done all _ _ false (so.items ++ (v, false) ∷ []) _ _ (found_next _ _ _ so.items v false so.kept c.in_ok-add.ensures.added) (open_next so.items v false) last

pub loop-preserved : goal.loop-preserved
loop-preserved g c =
    let rule = g.R.Rule.rule c.args.rule.now in
    let so = c.loop.invariant in
    let v = c.in_ok-read.field-0 in
    let all = all_turns rule c.args.self.now.counts c.args.self.now.rest.now in
    let turns : (length c.args.self.now.rest.now - (c.loop.counter + 1)) + 1 ≡ length c.args.self.now.rest.now - c.loop.counter = omega (arith, c.loop-test.true) in
    let begins = comma_first rule _ (g.met.R.Rule.begun c.args.rule.now) ∙ sym c.begins.ensures ∙ c.if-not-begins.false in
    let read = comma_read rule _ _ _ _ _ _ v _ _ c.in_ok-read.ensures c.in_ok-accept.ensures c.if-not-branch.false in
    record {
      items = so.items ++ (v, true) ∷ [];
      kept = found_next _ _ _ so.items v true so.kept c.in_ok-add.ensures.added;
      more = open_next so.items v true;
      goes = turn_next (turn rule).first (turn rule).read all so.items (so.items ++ (v, true) ∷ []) (v, true) _ _ _ _ _ _ so.goes turns begins (ap (mapped (λ v. (v, v.1))) read) refl;
    }

pub returns : goal.returns
returns g c =
    let rule = g.R.Rule.rule c.args.rule.now in
    let so = c.loop.invariant in
    let all = all_turns rule c.args.self.now.counts c.args.self.now.rest.now in
    let spent : length c.args.self.now.rest.now - c.loop.counter ≡ 0 = omega (arith, c.loop-test.false, c.loop.auto.counter-end) in
    let ends = turn_spent (turn rule).first (turn rule).read all so.items (length c.args.self.now.rest.now - c.loop.counter) _ _ so.goes spent in
    found_done all _ _ true so.items _ _ so.kept so.more ends
