use Rattle.std.proofs.Common.{◌≡◌, ◌<◌, ◌^◌, ◌-◌, arith, rules, length, refl, subst, ℕ}
use Rattle.tm_base.specs.Shapes.{leaves_of}
use Rattle.tm_auto.proofs.CaseLemmas.{RefFront, of_bytes, ref_none, ref_turn, ref_done, front_mark, front_room}
use Rattle.tm_auto.proofs.build.Building.grow_ref.Goals as goal

pub loop-place-init : goal.loop-place-init
loop-place-init c = ref_none c.args.reference c.args.target _ _ (record { pointer = refl; states = refl; edges = refl; head = refl })

pub seal-requires-clause-mark : goal.seal-requires-clause-mark
seal-requires-clause-mark c = let mark : c.len-mark.result ≡ length c.args.self.now.head.items = search rules in front_mark (of_bytes c.args.reference c.loop-place.place (c.args.self.now.pointer - c.loop-place.place) c.args.target) c.len-mark.result mark c.loop-place.invariant

pub seal-requires-clause-room : goal.seal-requires-clause-room
unfolding leaves_of
seal-requires-clause-room c =
    let mark : c.len-mark.result ≡ length c.args.self.now.head.items = search rules in
    front_room (of_bytes c.args.reference c.loop-place.place (c.args.self.now.pointer - c.loop-place.place) c.args.target) c.len-mark.result c.args.self.now.pointer mark (omega arith) c.requires.room c.loop-place.invariant

pub loop-place-preserved : goal.loop-place-preserved
loop-place-preserved c =
    let mark : c.len-mark.result ≡ length c.args.self.now.head.items = search rules in
    let id : c.args.reference.0 < 2 ^ 32 = omega arith in
    ref_turn c.args.reference c.loop-place.place c.args.target _ _ _ _ c.len-mark.result _ _ c.loop-place-test.true c.loop-place.auto.place id mark c.requires.ready c.loop-place.invariant c.in_ok-next.ensures c.in_ok-add.ensures

pub returns : goal.returns
unfolding leaves_of
returns c =
    let e : c.loop-place.place ≡ 0 = omega arith in
    ref_done c.args.reference c.args.target _ _ _ c.requires.ready refl (subst (λ (z : ℕ). RefFront c.args.reference z c.args.target c.args.self.now c.loop-place.self c.loop-place.next) e c.loop-place.invariant)
