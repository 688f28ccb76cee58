use Rattle.std.proofs.Common.{rules, ◌≡◌, ◌+◌, ◌-◌, ◌<◌, sym, ap, ◌∙◌, length, arith}
use Rattle.tm_parse.specs.Combinators.{mapped}
use Rattle.tm_parse.specs.Shapes.{with_comma}
use Rattle.tm_parse.specs.Types.{type_at}
use Rattle.tm_parse.proofs.reading.Loops.{turn_ends, turn_spent, turn_stops, turn_last, turn_next, comma_read, comma_stops, item_stops}
use Rattle.tm_parse.proofs.grammar.LifetimesThen.{arguments_read, then_stops, then_closed, then_none, then_some, then_some_stops}
use Rattle.tm_parse.proofs.reader.Reader.+ty.Goals as goal
use Rattle.tm_parse.proofs.reader.Reader.+ty.Goals.{argument_list-then-not-is_open-via-then-not-is_open, argument_list-then-not-is_open-via-else-not-is_open+then-not-is_type_next}

pub types-returns-then-not-is_type_next : goal.types-returns-then-not-is_type_next
types-returns-then-not-is_type_next t c =
    turn_ends _ (with_comma (type_at c.args.depth 0)).read _ _ (length c.args.self.now.rest.now - c.loop.counter) _ _ c.loop.invariant (sym c.is_type_next.ensures ∙ c.if-not-is_type_next.true)

pub types-returns-in_err-ty : goal.types-returns-in_err-ty
types-returns-in_err-ty t c =
    let left : 0 < length c.args.self.now.rest.now - c.loop.counter = omega (arith, c.loop-test.true) in
    let begins = sym c.is_type_next.ensures ∙ c.if-not-is_type_next.false in
    let stops = turn_stops _ (with_comma (type_at c.args.depth 0)).read _ _ (length c.args.self.now.rest.now - c.loop.counter) _ _ c.ty.new.self _ c.loop.invariant left begins (item_stops (type_at c.args.depth 0) _ _ c.ty.new.self _ c.in_err-ty.ensures) in
    search (rules, stops)

pub types-returns-in_err-accept : goal.types-returns-in_err-accept
types-returns-in_err-accept t c =
    let left : 0 < length c.args.self.now.rest.now - c.loop.counter = omega (arith, c.loop-test.true) in
    let begins = sym c.is_type_next.ensures ∙ c.if-not-is_type_next.false in
    let stops = turn_stops _ (with_comma (type_at c.args.depth 0)).read _ _ (length c.args.self.now.rest.now - c.loop.counter) _ _ c.accept.new.self _ c.loop.invariant left begins (comma_stops (type_at c.args.depth 0) _ _ _ _ _ c.accept.new.self _ c.in_ok-ty.ensures c.in_err-accept.ensures) in
    search (rules, stops)

pub types-returns-then-not-branch : goal.types-returns-then-not-branch
types-returns-then-not-branch t c =
    let left : 0 < length c.args.self.now.rest.now - c.loop.counter = omega (arith, c.loop-test.true) in
    let begins = sym c.is_type_next.ensures ∙ c.if-not-is_type_next.false in
    let turn = comma_read (type_at c.args.depth 0) _ _ _ _ _ _ _ _ _ c.in_ok-ty.ensures c.in_ok-accept.ensures c.if-not-branch.true in
    turn_last _ (with_comma (type_at c.args.depth 0)).read _ _ _ _ (length c.args.self.now.rest.now - c.loop.counter) _ _ _ _ c.loop.invariant left begins turn c.in_ok-add.ensures.added

pub types-loop-preserved : goal.types-loop-preserved
types-loop-preserved t c =
    let turns : (length c.args.self.now.rest.now - (c.loop.counter + 1)) + 1 ≡ length c.args.self.now.rest.now - c.loop.counter = omega (arith, c.loop-test.true) in
    let begins = sym c.is_type_next.ensures ∙ c.if-not-is_type_next.false in
    let turn = comma_read (type_at c.args.depth 0) _ _ _ _ _ _ _ _ _ c.in_ok-ty.ensures c.in_ok-accept.ensures c.if-not-branch.false in
    turn_next _ (with_comma (type_at c.args.depth 0)).read _ _ _ _ _ _ _ _ _ _ c.loop.invariant turns begins turn c.in_ok-add.ensures.added

pub types-returns : goal.types-returns
types-returns t c =
    let spent : length c.args.self.now.rest.now - c.loop.counter ≡ 0 = omega (arith, c.loop-test.false, c.loop.auto.counter-end) in
    turn_spent _ (with_comma (type_at c.args.depth 0)).read _ _ (length c.args.self.now.rest.now - c.loop.counter) _ _ c.loop.invariant spent

pub argument_list-returns-in_err-lifetimes : goal.argument_list-returns-in_err-lifetimes
argument_list-returns-in_err-lifetimes t c =
    let told = arguments_read c.args.depth c.new-none.result c.new-none.ensures c.args.self.now.counts c.args.self.now.rest.now (sym c.is_next.ensures ∙ c.if-not-is_next.false) in
    let stops = then_stops (type_at c.args.depth 0) _ _ told c.so_far_behind.new.self _ c.in_err-lifetimes.ensures in
    search (rules, stops)

pub argument_list-returns-then-not-is_open : goal.argument_list-returns-then-not-is_open
argument_list-returns-then-not-is_open t c =
    let told = arguments_read c.args.depth c.new-none.result c.new-none.ensures c.args.self.now.counts c.args.self.now.rest.now (sym c.is_next.ensures ∙ c.if-not-is_next.false) in
    let none = c.new-then-not-is_open.ensures in
    elim c.then-not-is_open.branch [
      | argument_list-then-not-is_open-via-then-not-is_open w ↦
          then_closed (type_at c.args.depth 0) _ _ told _ _ _ _ c.in_ok-lifetimes.ensures _ none w.if-not-is_open.true
      | argument_list-then-not-is_open-via-else-not-is_open+then-not-is_type_next w ↦
          then_none (type_at c.args.depth 0) _ _ told _ _ _ _ c.in_ok-lifetimes.ensures _ none (sym w.is_type_next.ensures ∙ w.if-not-is_type_next.true)
    ]

pub argument_list-returns-in_err-types1-2 : goal.argument_list-returns-in_err-types1-2
argument_list-returns-in_err-types1-2 t c =
    let told = arguments_read c.args.depth c.new-none.result c.new-none.ensures c.args.self.now.counts c.args.self.now.rest.now (sym c.is_next.ensures ∙ c.if-not-is_next.false) in
    let stops = then_some_stops (type_at c.args.depth 0) _ _ told _ _ _ _ c.in_ok-lifetimes.ensures c.if-not-is_open.false
    (sym c.is_type_next.ensures ∙ c.if-not-is_type_next.false) c.types1-2.new.self _ c.in_err-types1-2.ensures in
    search (rules, stops)

pub argument_list-returns : goal.argument_list-returns
argument_list-returns t c =
    let told = arguments_read c.args.depth c.new-none.result c.new-none.ensures c.args.self.now.counts c.args.self.now.rest.now (sym c.is_next.ensures ∙ c.if-not-is_next.false) in
    then_some (type_at c.args.depth 0) _ _ told _ _ _ _ c.in_ok-lifetimes.ensures c.if-not-is_open.false (sym c.is_type_next.ensures ∙ c.if-not-is_type_next.false)
    ∙ ap (mapped (λ items. (c.in_ok-lifetimes.lifetimes, items))) c.in_ok-types1-2.ensures
