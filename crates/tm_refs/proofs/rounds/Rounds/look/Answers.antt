use Rattle.std.proofs.Common.{◌≤◌, ◌<◌, ◌∙◌, sym, length, arith}
use Rattle.std.proofs.lemmas.Bool.{both_ways}
use Rattle.tm_base.specs.Worlds.{tables_of}
use Rattle.tm_refs.proofs.RoundLemmas.{held-agrees}
use Rattle.tm_refs.proofs.LossLemmas.{look-left, look-lost, look-passed}
use Rattle.tm_refs.proofs.StepLemmas.{agreed-below, agreed-judged, look-agrees}
use Rattle.tm_refs.proofs.rounds.Rounds.look.Goals as goal

pub returns-then-not-is_held-clause-look : goal.returns-then-not-is_held-clause-look
returns-then-not-is_held-clause-look g c =
    look-left (tables_of c.args.self.now.world.now) c.args.self.now.assume c.args.table.now.depth c.args.table.now.rows.items c.requires.table c.args.pair c.args.lost.now.items c.requires.settled
    (sym c.is_held.ensures ∙ c.if-not-is_held.true)

pub go_together-requires-clause-judged : goal.go_together-requires-clause-judged
go_together-requires-clause-judged g c =
    let tables = tables_of c.args.self.now.world.now in
    let n = c.args.table.now.depth in
    let held = sym c.is_held.ensures ∙ c.if-not-is_held.false in
    agreed-judged tables c.args.self.now.assume n c.args.pair (held-agrees tables c.args.self.now.assume n c.args.table.now.rows.items c.requires.table c.args.pair held)

pub lose-requires-clause-target : goal.lose-requires-clause-target
lose-requires-clause-target g c =
    let tables = tables_of c.args.self.now.world.now in
    let n = c.args.table.now.depth in
    let held = sym c.is_held.ensures ∙ c.if-not-is_held.false in
    let below : c.args.pair.target.0 < length c.args.self.now.world.now.refs = (agreed-below tables c.args.self.now.assume n c.args.pair (held-agrees tables c.args.self.now.assume n c.args.table.now.rows.items c.requires.table c.args.pair held)).1 in
    let few : length c.args.self.now.world.now.refs ≤ 64 = c.args.self.now.world.now.few_refs in
    omega arith

pub returns-then-branch-clause-look : goal.returns-then-branch-clause-look
returns-then-branch-clause-look g c =
    let tables = tables_of c.args.self.now.world.now in
    let n = c.args.table.now.depth in
    let rows = c.args.table.now.rows.items in
    let held = sym c.is_held.ensures ∙ c.if-not-is_held.false in
    look-passed tables c.args.self.now.assume n rows c.requires.table c.args.pair c.args.lost.now.items c.requires.settled
    ((look-agrees tables c.args.self.now.assume n rows c.requires.table c.args.pair c.in_ok-go_together.field-0 held c.in_ok-go_together.ensures).0 c.if-branch.true)

pub returns-clause-look : goal.returns-clause-look
returns-clause-look g c =
    let tables = tables_of c.args.self.now.world.now in
    let n = c.args.table.now.depth in
    let rows = c.args.table.now.rows.items in
    let held = sym c.is_held.ensures ∙ c.if-not-is_held.false in
    look-lost tables c.args.self.now.assume n rows c.requires.table c.args.pair held
    (λ h. both_ways _ c.if-branch.false ((look-agrees tables c.args.self.now.assume n rows c.requires.table c.args.pair c.in_ok-go_together.field-0 held c.in_ok-go_together.ensures).1 h))
    c.lose.new.self.rows.items c.lose.ensures.lost c.args.lost.now.items c.push.new.self.items c.in_ok-push.ensures.items c.requires.settled
