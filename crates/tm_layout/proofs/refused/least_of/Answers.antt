use Rattle.std.proofs.Common.{◌≡◌, sym, ap, subst, ◌∙◌, ◌+◌, ◌<◌, false, [], ◌∷◌, ◌++◌, length, take, replicate, arith}
use Rattle.std.proofs.lemmas.List.{length-map, take_more}
use Rattle.tm_base.specs.Worlds.{IsTypeOver, tables_of}
use Rattle.tm_layout.specs.Least.{IsLeastAnswer}
use Rattle.tm_layout.specs.Reached.{types_at}
use Rattle.tm_layout.proofs.LeastLemmas.{least-again}
use Rattle.tm_layout.proofs.ReachedLemmas.{item-at}
use Rattle.tm_layout.proofs.SeenLemmas.{AreSeen, seen-none, seen-more, seen-stands}
use Rattle.tm_layout.proofs.refused.least_of.Goals as goal
use Rattle.tm_layout.proofs.refused.least_of.Goals.{then-not-was_seen+in_ok-least, else-not-was_seen}

pub least_with-requires-clause-type_is : goal.least_with-requires-clause-type_is
least_with-requires-clause-type_is c =
    let place = c.loop-g.g-index in
    let item = c.g-item.result in
    subst (IsTypeOver (tables_of c.args.world.now)) (item-at c.args.types.now place item c.loop-g-test.true c.g-item.is)
    (c.requires.types_are place item.now (omega (arith, c.loop-g-test.true, length-map c.args.types.now (λ g. g.now))))

pub loop-g-init : goal.loop-g-init
loop-g-init c = (λ h at. absurd (omega (arith, at.1)), seen-none c.args.world.now c.in_ok-seen.seen.items (c.in_ok-seen.ensures ∙ ap (λ n. replicate n false) c.len.ensures))

pub loop-g-preserved : goal.loop-g-preserved
loop-g-preserved c =
    let world = c.args.world.now in
    let place = c.loop-g.g-index in
    let item = c.g-item.result in
    let types = types_at c.args.types.now in
    let within : place < length types = omega (arith, c.loop-g-test.true, length-map c.args.types.now (λ g. g.now)) in
    let same = item-at c.args.types.now place item c.loop-g-test.true c.g-item.is in
    let over = subst (IsTypeOver (tables_of world)) same (c.requires.types_are place item.now within) in
    let more : take (place + 1) types ≡ take place types ++ item.now ∷ [] = take_more types place item.now within ∙ ap (λ h. take place types ++ h ∷ []) same in
    let least : IsLeastAnswer (tables_of world) (take place types ++ item.now ∷ []) c.if-not-was_seen.least = elim c.if-not-was_seen.branch [
      | then-not-was_seen+in_ok-least w ↦ subst (IsLeastAnswer (tables_of world) (take place types ++ item.now ∷ [])) (sym w.least-is) (w.in_ok-least.ensures (take place types) c.loop-g.invariant.0)
      | else-not-was_seen w ↦
          subst (IsLeastAnswer (tables_of world) (take place types ++ item.now ∷ [])) (sym w.least-is)
          (least-again (tables_of world) (take place types) item.now c.loop-g.least
          (seen-stands world c.loop-g.seen.items (take place types) item.now c.loop-g.invariant.1 over (sym c.was_seen.ensures.was ∙ w.if-not-was_seen.false))
          c.loop-g.invariant.0)
    ] in
    let seen = subst (λ marks. AreSeen world marks (take place types ++ item.now ∷ [])) (sym c.was_seen.ensures.now) (seen-more world c.loop-g.seen.items (take place types) item.now c.loop-g.invariant.1) in
    (subst (λ some. IsLeastAnswer (tables_of world) some c.if-not-was_seen.least) (sym more) least, subst (AreSeen world c.was_seen.new.seen.items) (sym more) seen)
