use Rattle.std.proofs.Common.{◌≡◌, ◌∙◌, ap, sym, subst, arith, length, suc}
use Rattle.std.specs.List.{filter}
use Rattle.std.proofs.lemmas.Bool.{eqb-false, eqb-true}
use Rattle.tm_base.specs.Worlds.{tables_of}
use Rattle.tm_refs.specs.Looks.{all_pairs, dependents, depends_on_some, pairs_below}
use Rattle.tm_refs.specs.Rounds.{IsEnough, IsSettled, IsTable}
use Rattle.tm_refs.proofs.CostLemmas.{dependents-few, fewer-held, gone-least, gone-most, pairs-few}
use Rattle.tm_refs.proofs.ListLemmas.{ones, empty, filled}
use Rattle.tm_refs.proofs.NextLemmas.{first-enough, next-enough, still-solved}
use Rattle.tm_refs.proofs.rounds.Rounds.solve.Goals as goal

pub rounds-init : goal.rounds-init
rounds-init g c =
    let tables = tables_of c.args.self.now.world.now in
    let assume = c.args.self.now.assume in
    let rows = c.args.table.rows.items in
    let all : c.in_ok-asked.asked.items ≡ all_pairs tables = c.in_ok-asked.ensures ∙ ap pairs_below c.len.ensures in
    let table = subst (λ n. IsTable tables assume n rows) (sym c.requires.start) c.requires.table in
    record {
      table = table;
      settled = subst (λ n. IsSettled tables assume n rows) (sym c.requires.start) c.requires.settled;
      enough = first-enough tables assume c.args.table.depth rows c.in_ok-asked.asked.items table all;
      looks = omega (arith, ap length all);
      depth = omega (arith, c.requires.start);
    }

pub round-requires-clause-room : goal.round-requires-clause-room
round-requires-clause-room g c =
    let tables = tables_of c.args.self.now.world.now in
    omega (arith, c.rounds.invariant.depth, gone-most tables c.args.self.now.assume c.rounds.table.rows.items, pairs-few tables c.args.self.now.assume c.args.self.now.world.now.few_refs)

pub returns-in_err-lost-clause-looks : goal.returns-in_err-lost-clause-looks
returns-in_err-lost-clause-looks g c = λ compatible is.
    let tables = tables_of c.args.self.now.world.now in
    let inv = c.rounds.invariant in
    omega (arith, gone-least tables c.args.self.now.assume c.rounds.table.depth c.rounds.table.rows.items compatible inv.settled is)

pub returns-then-is_empty-clause-solved : goal.returns-then-is_empty-clause-solved
returns-then-is_empty-clause-solved g c =
    let tables = tables_of c.args.self.now.world.now in
    let did = c.in_ok-lost.ensures in
    let none : c.in_ok-lost.lost.len ≡ 0 = eqb-true c.in_ok-lost.lost.len 0 (sym c.is_empty.ensures ∙ c.if-is_empty.true) in
    still-solved tables c.args.self.now.assume c.rounds.table.depth c.rounds.table.rows.items c.round.new.table.rows.items c.in_ok-lost.lost.items c.rounds.invariant.settled did.round (empty c.in_ok-lost.lost.items (sym c.in_ok-lost.lost.ok.0 ∙ none))

pub returns-then-is_empty-clause-looks : goal.returns-then-is_empty-clause-looks
returns-then-is_empty-clause-looks g c = λ compatible is.
    let tables = tables_of c.args.self.now.world.now in
    let inv = c.rounds.invariant in
    omega (arith, gone-least tables c.args.self.now.assume c.rounds.table.depth c.rounds.table.rows.items compatible inv.settled is)

pub returns-in_err-asked-2-clause-looks : goal.returns-in_err-asked-2-clause-looks
returns-in_err-asked-2-clause-looks g c = λ compatible is.
    let tables = tables_of c.args.self.now.world.now in
    let inv = c.rounds.invariant in
    omega (arith, gone-least tables c.args.self.now.assume c.rounds.table.depth c.rounds.table.rows.items compatible inv.settled is)

pub rounds-smaller : goal.rounds-smaller
rounds-smaller g c =
    let some = eqb-false c.in_ok-lost.lost.len 0 (sym c.is_empty.ensures ∙ c.if-is_empty.false) in
    fewer-held (tables_of c.args.self.now.world.now) c.args.self.now.assume c.rounds.table.rows.items c.round.new.table.rows.items c.in_ok-lost.lost.items c.in_ok-lost.ensures.round.losses
    (filled c.in_ok-lost.lost.items c.in_ok-lost.lost.len c.in_ok-lost.lost.ok.0 some)

pub rounds-preserved : goal.rounds-preserved
rounds-preserved g c =
    let tables = tables_of c.args.self.now.world.now in
    let assume = c.args.self.now.assume in
    let n = c.rounds.table.depth in
    let rows = c.rounds.table.rows.items in
    let after = c.round.new.table.rows.items in
    let lost = c.in_ok-lost.lost.items in
    let inv = c.rounds.invariant in
    let did = c.in_ok-lost.ensures in
    let deeper : suc n ≡ c.round.new.table.depth = omega (arith, did.depth) in
    let next : c.in_ok-asked-2.asked.items ≡ filter (depends_on_some tables lost) (all_pairs tables) =
    c.in_ok-asked-2.ensures ∙ ap (λ ps. filter (depends_on_some tables ps) (all_pairs tables)) c.as_slice-in-rounds.ensures.value
    in
    let some = eqb-false c.in_ok-lost.lost.len 0 (sym c.is_empty.ensures ∙ c.if-is_empty.false) in
    let few : length c.as_slice.result.now ≡ length c.rounds.asked.items = ap length c.as_slice.ensures.value in
    record {
      table = subst (λ m. IsTable tables assume m after) deeper did.round.table;
      settled = subst (λ m. IsSettled tables assume m after) deeper did.round.settled;
      enough =
          subst (λ ps. IsEnough tables assume c.round.new.table.depth after ps) (sym next)
          (subst (λ m. IsEnough tables assume m after (filter (depends_on_some tables lost) (all_pairs tables))) deeper
          (next-enough tables assume n rows after lost inv.settled did.round));
      looks = omega (arith, ap length next, dependents-few tables assume lost, did.round.losses.gone_with (dependents tables));
      depth = omega (arith, filled lost c.in_ok-lost.lost.len c.in_ok-lost.lost.ok.0 some, did.round.losses.gone_with (λ pair. 1), ones lost);
    }
