use Rattle.std.proofs.Common.{rules, ◌≡◌, ◌+◌, ◌-◌, ◌<◌, refl, sym, ap, ◌∙◌, true, [], ◌∷◌, ◌++◌, length, arith}
use Rattle.tm_parse.proofs.reading.ItemsBySort.{all_items, part, kept_done, kept_next}
use Rattle.tm_parse.proofs.reading.Loops.{turn_ends, turn_spent, turn_stops, turn_next, mapped_stops}
use Rattle.tm_parse.proofs.reader.Reader.file.Goals as goal
use Rattle.tm_parse.specs.Combinators.{mapped}
use Rattle.tm_parse.specs.Files.{item, sorted}

pub returns-then-not-is_item_next : goal.returns-then-not-is_item_next
returns-then-not-is_item_next c =
    let kept = c.loop.invariant in
    let all = all_items c.args.self.now.counts c.args.self.now.rest.now in
    let ends = turn_ends (item 0).first part all kept.items (length c.args.self.now.rest.now - c.loop.counter) _ _ kept.goes (sym c.is_item_next.ensures ∙ c.if-not-is_item_next.true) in
    kept_done all kept.items _ _ _ kept.kept ends

pub returns-in_err-item : goal.returns-in_err-item
returns-in_err-item c =
    let kept = c.loop.invariant in
    let all = all_items c.args.self.now.counts c.args.self.now.rest.now in
    let left : 0 < length c.args.self.now.rest.now - c.loop.counter = omega (arith, c.loop-test.true) in
    let begins = sym c.is_item_next.ensures ∙ c.if-not-is_item_next.false in
    let stops = turn_stops (item 0).first part all kept.items (length c.args.self.now.rest.now - c.loop.counter) _ _ c.item.new.self _ kept.goes left begins (mapped_stops _ _ c.item.new.self _ c.in_err-item.ensures) in
    let file_stops = mapped_stops sorted all c.item.new.self _ stops in
    search (rules, file_stops)

pub loop-preserved : goal.loop-preserved
loop-preserved c =
    let kept = c.loop.invariant in
    let all = all_items c.args.self.now.counts c.args.self.now.rest.now in
    let turns : (length c.args.self.now.rest.now - (c.loop.counter + 1)) + 1 ≡ length c.args.self.now.rest.now - c.loop.counter = omega (arith, c.loop-test.true) in
    let begins = sym c.is_item_next.ensures ∙ c.if-not-is_item_next.false in
    let i = c.in_ok-item.field-0 in
    record {
      items = kept.items ++ i ∷ [];
      kept = kept_next kept.items i _ _ kept.kept c.in_ok-add_item.ensures;
      goes = turn_next (item 0).first part all kept.items (kept.items ++ i ∷ []) i _ _ _ _ _ _ kept.goes turns begins (ap (mapped (λ v. (v, true))) c.in_ok-item.ensures) refl;
    }

pub returns : goal.returns
returns c =
    let kept = c.loop.invariant in
    let all = all_items c.args.self.now.counts c.args.self.now.rest.now in
    let spent : length c.args.self.now.rest.now - c.loop.counter ≡ 0 = omega (arith, c.loop-test.false, c.loop.auto.counter-end) in
    let ends = turn_spent (item 0).first part all kept.items (length c.args.self.now.rest.now - c.loop.counter) _ _ kept.goes spent in
    kept_done all kept.items _ _ _ kept.kept ends
