use Rattle.std.proofs.Common.{sym, subst}
use Rattle.tm_base.specs.Worlds.{IsTypeOver, tables_of}
use Rattle.tm_layout.specs.Reached.{AreReached, types_at}
use Rattle.tm_layout.proofs.LeastLemmas.{named-first, none-judged}
use Rattle.tm_layout.proofs.OverLemmas.{reached-over}
use Rattle.tm_layout.proofs.ReachedLemmas.{All-contained}
use Rattle.tm_layout.proofs.refused.first_refused.Goals as goal

pub least_of-requires-clause-types_are : goal.least_of-requires-clause-types_are
least_of-requires-clause-types_are c =
    let reached = subst (λ items. AreReached (tables_of c.args.world.now) c.args.g.now (types_at items)) (sym c.as_slice.ensures.value) c.in_ok-types.ensures in
    All-contained (IsTypeOver (tables_of c.args.world.now)) (types_at c.as_slice.result.now)
    (λ h at. reached-over c.args.world.now c.args.g.now h c.requires.type_is (reached.each h at))

pub returns-in-Some : goal.returns-in-Some
returns-in-Some c =
    let reached = subst (λ items. AreReached (tables_of c.args.world.now) c.args.g.now (types_at items)) (sym c.as_slice.ensures.value) c.in_ok-types.ensures in
    let least = rw c.in-Some.is at c.in_ok-least.ensures in
    named-first (tables_of c.args.world.now) c.args.g.now (types_at c.as_slice.result.now) c.in-Some.refused reached least

pub returns : goal.returns
returns c =
    let reached = subst (λ items. AreReached (tables_of c.args.world.now) c.args.g.now (types_at items)) (sym c.as_slice.ensures.value) c.in_ok-types.ensures in
    let sound = rw c.in-None.is at c.in_ok-least.ensures in
    none-judged (tables_of c.args.world.now) c.args.g.now (types_at c.as_slice.result.now) reached sound
