use Rattle.std.proofs.Common.{rules, ap, ◌∙◌, sym}
use Rattle.tm_parse.proofs.grammar.LifetimesThen.{parameters_read, then_stops, then_closed, then_none, then_some, then_some_stops}
use Rattle.tm_parse.proofs.reader.Reader.parameter_list.Goals as goal
use Rattle.tm_parse.proofs.reader.Reader.parameter_list.Goals.{then-not-is_open-via-then-not-is_open, then-not-is_open-via-else-not-is_open+then-not-is_definition_name_next}
use Rattle.tm_parse.specs.Combinators.{mapped}
use Rattle.tm_parse.specs.Definitions.{type_parameter}

pub returns-in_err-lifetimes : goal.returns-in_err-lifetimes
returns-in_err-lifetimes c =
    let told = parameters_read c.new-none.result c.new-none.ensures c.args.self.now.counts c.args.self.now.rest.now (sym c.is_next.ensures ∙ c.if-not-is_next.false) in
    let stops = then_stops type_parameter _ _ told c.so_far_behind.new.self _ c.in_err-lifetimes.ensures in
    search (rules, stops)

pub returns-then-not-is_open : goal.returns-then-not-is_open
returns-then-not-is_open c =
    let told = parameters_read c.new-none.result c.new-none.ensures c.args.self.now.counts c.args.self.now.rest.now (sym c.is_next.ensures ∙ c.if-not-is_next.false) in
    let none = c.new-then-not-is_open.ensures in
    elim c.then-not-is_open.branch [
      | then-not-is_open-via-then-not-is_open w ↦
          then_closed type_parameter _ _ told _ _ _ _ c.in_ok-lifetimes.ensures _ none w.if-not-is_open.true
      | then-not-is_open-via-else-not-is_open+then-not-is_definition_name_next w ↦
          then_none type_parameter _ _ told _ _ _ _ c.in_ok-lifetimes.ensures _ none (sym w.is_definition_name_next.ensures ∙ w.if-not-is_definition_name_next.true)
    ]

pub returns-in_err-listed1-2 : goal.returns-in_err-listed1-2
returns-in_err-listed1-2 c =
    let told = parameters_read c.new-none.result c.new-none.ensures c.args.self.now.counts c.args.self.now.rest.now (sym c.is_next.ensures ∙ c.if-not-is_next.false) in
    let stops = then_some_stops type_parameter _ _ told _ _ _ _ c.in_ok-lifetimes.ensures c.if-not-is_open.false
    (sym c.is_definition_name_next.ensures ∙ c.if-not-is_definition_name_next.false) c.listed1-2.new.self _ c.in_err-listed1-2.ensures in
    search (rules, stops)

pub returns : goal.returns
returns c =
    let told = parameters_read c.new-none.result c.new-none.ensures c.args.self.now.counts c.args.self.now.rest.now (sym c.is_next.ensures ∙ c.if-not-is_next.false) in
    then_some type_parameter _ _ told _ _ _ _ c.in_ok-lifetimes.ensures c.if-not-is_open.false (sym c.is_definition_name_next.ensures ∙ c.if-not-is_definition_name_next.false)
    ∙ ap (mapped (λ items. (c.in_ok-lifetimes.lifetimes, items))) c.in_ok-listed1-2.ensures
