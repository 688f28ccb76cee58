use Rattle.std.proofs.Common.{rules, ◌≡◌, ℕ, ◌+◌, ◌-◌, ◌<◌, length, arith, sym, subst, ap, ◌∙◌, drop, take, List}
use Rattle.std.proofs.lemmas.List.{take_all}
use Rattle.tm_base.specs.declared.tree.Tree.{Tree, Range, Pad, Seq, Alt, Repeat}
use Rattle.tm_auto.specs.declared.extent.Extent.TheVariants.{Dead, Long}
use Rattle.tm_auto.specs.Builds.{CanGrow}
use Rattle.tm_auto.specs.Shapes.{extent_of, nodes_of, all_nodes}
use Rattle.tm_auto.proofs.CaseLemmas as cases
use Rattle.tm_auto.proofs.MemberLemmas as members
use Rattle.tm_auto.proofs.ShapeLemmas.{extent_of-Never, extent_of-Private, nodes_of-Seq, nodes_of-Alt, nodes_of-Repeat, nodes_at}
use Rattle.tm_auto.proofs.TimesLemmas as times
use Rattle.tm_auto.proofs.build.Building.+grow.Goals as goal
use Rattle.tm_auto.proofs.build.Building.+grow.Goals.{grow_one_of-in-Long+in_ok-grow-in-Long, grow_one_of-in-Empty, grow_one_of-in-Dead}

pub grow-returns-in-Never : goal.grow-returns-in-Never
grow-returns-in-Never t c = let dead : Dead ≡ Long = sym (ap extent_of c.in-Never.is ∙ extent_of-Never) ∙ c.requires.growable.long in cc

pub grow-returns-in-Range : goal.grow-returns-in-Range
grow-returns-in-Range t c =
    let byte : c.in-Range.high < 256 = omega arith in
    let can : CanGrow (Range c.in-Range.low c.in-Range.high) c.args.target c.args.self.now = rw c.in-Range.is at c.requires in
    rw c.in-Range.is (cases.onto c.add.result _ _ (cases.range_made c.in-Range.low c.in-Range.high c.args.target c.args.self.now c.add.new.self byte can) c.add.ensures)

pub grow-returns-in-Pad : goal.grow-returns-in-Pad
grow-returns-in-Pad t c =
    let can : CanGrow Pad c.args.target c.args.self.now = rw c.in-Pad.is at c.requires in
    rw c.in-Pad.is (cases.onto c.add-in-Pad.result _ _ (cases.pad_made c.args.target c.args.self.now c.add-in-Pad.new.self can) c.add-in-Pad.ensures)

pub grow-returns-in-Private : goal.grow-returns-in-Private
grow-returns-in-Private t c = let dead : Dead ≡ Long = sym (ap extent_of c.in-Private.is ∙ extent_of-Private _) ∙ c.requires.growable.long in cc

pub grow-grow_in_turn-requires : goal.grow-grow_in_turn-requires
grow-grow_in_turn-requires t c =
    let can : CanGrow (Seq c.as_slice.result.now) c.args.target c.args.self.now = rw (c.as_slice.ensures, ← c.in-Seq.is) c.requires in
    let smaller : 1 + all_nodes c.as_slice.result.now < nodes_of c.args.tree.now = rw (c.in-Seq.is, c.as_slice.ensures, nodes_of-Seq) (omega arith) in
    search rules

pub grow-grow_one_of-requires : goal.grow-grow_one_of-requires
grow-grow_one_of-requires t c =
    let can : CanGrow (Alt c.as_slice-in-Alt.result.now) c.args.target c.args.self.now = rw (c.as_slice-in-Alt.ensures, ← c.in-Alt.is) c.requires in
    let smaller : 1 + all_nodes c.as_slice-in-Alt.result.now < nodes_of c.args.tree.now = rw (c.in-Alt.is, c.as_slice-in-Alt.ensures, nodes_of-Alt) (omega arith) in
    search rules

pub grow-grow_times-requires : goal.grow-grow_times-requires
grow-grow_times-requires t c =
    let can : CanGrow (Repeat c.in-Repeat.count c.get.result.now) c.args.target c.args.self.now = rw (c.get.ensures, ← c.in-Repeat.is) c.requires in
    let smaller : 1 + nodes_of c.get.result.now < nodes_of c.args.tree.now = rw (c.in-Repeat.is, c.get.ensures, nodes_of-Repeat) (omega arith) in
    search rules

pub grow_in_turn-seal-requires-clause-room : goal.grow_in_turn-seal-requires-clause-room
grow_in_turn-seal-requires-clause-room t c =
    let mark : c.len-mark.result ≡ length c.args.self.now.head.items = search rules in
    cases.turn_room c.args.trees.now c.loop-at.at c.index-trees-at.result c.args.target c.args.self.now c.loop-at-test.true c.loop-at.auto.at c.index-trees-at.is c.requires c.len-mark.result c.loop-at.self c.loop-at.next mark c.loop-at.invariant

pub grow_in_turn-grow-requires : goal.grow_in_turn-grow-requires
grow_in_turn-grow-requires t c =
    let mark : c.len-mark.result ≡ length c.args.self.now.head.items = search rules in
    let placed = cases.turn_placed c.args.trees.now c.loop-at.at c.index-trees-at.result c.args.target c.args.self.now c.loop-at-test.true c.loop-at.auto.at c.index-trees-at.is c.requires c.len-mark.result c.loop-at.self c.seal.new.self c.loop-at.next c.in_ok-next-in-Long.next mark c.loop-at.invariant c.in_ok-next-in-Long.ensures in
    let can : CanGrow c.index-trees-at.result c.in_ok-next-in-Long.next c.seal.new.self = cases.turn_can c.args.trees.now c.loop-at.at c.index-trees-at.result c.args.target c.args.self.now c.loop-at-test.true c.loop-at.auto.at c.index-trees-at.is c.requires c.seal.new.self c.in_ok-next-in-Long.next (sym c.of.ensures ∙ c.in-Long.is) placed in
    let at : c.loop-at.at - 1 < length c.args.trees.now = (let a = c.loop-at-test.true in let b = c.loop-at.auto.at in omega arith) in
    let nodes = nodes_at c.args.trees.now (c.loop-at.at - 1) c.index-trees-at.result at in
    let smaller : nodes_of c.index-trees-at.result < 1 + all_nodes c.args.trees.now = rw c.index-trees-at.is (omega arith) in
    search rules

pub grow_in_turn-loop-at-preserved-in-Continue-branch-2 : goal.grow_in_turn-loop-at-preserved-in-Continue-branch-2
grow_in_turn-loop-at-preserved-in-Continue-branch-2 t c =
    let mark : c.len-mark.result ≡ length c.args.self.now.head.items = search rules in
    let placed = cases.turn_placed c.args.trees.now c.loop-at.at c.index-trees-at.result c.args.target c.args.self.now c.loop-at-test.true c.loop-at.auto.at c.index-trees-at.is c.requires c.len-mark.result c.loop-at.self c.seal.new.self c.loop-at.next c.in_ok-next-in-Long.next mark c.loop-at.invariant c.in_ok-next-in-Long.ensures in
    cases.turn_long c.args.trees.now c.loop-at.at c.index-trees-at.result c.args.target c.args.self.now c.loop-at-test.true c.loop-at.auto.at c.index-trees-at.is c.requires c.seal.new.self c.grow.new.self c.in_ok-next-in-Long.next placed c.in_ok-grow-in-Long.ensures

pub grow_in_turn-loop-at-preserved-in-Empty : goal.grow_in_turn-loop-at-preserved-in-Empty
grow_in_turn-loop-at-preserved-in-Empty t c =
    cases.turn_empty c.args.trees.now c.loop-at.at c.index-trees-at.result c.args.target c.args.self.now c.loop-at-test.true c.loop-at.auto.at c.index-trees-at.is c.requires c.loop-at.self c.loop-at.next (sym c.of.ensures ∙ c.in-Empty.is) c.loop-at.invariant

pub grow_in_turn-loop-at-preserved : goal.grow_in_turn-loop-at-preserved
grow_in_turn-loop-at-preserved t c =
    absurd (cases.turn_dead c.args.trees.now c.loop-at.at c.index-trees-at.result c.args.target c.args.self.now c.loop-at-test.true c.loop-at.auto.at c.index-trees-at.is c.requires (sym c.of.ensures ∙ c.in-Dead.is))

pub grow_in_turn-returns : goal.grow_in_turn-returns
grow_in_turn-returns t c =
    let e : c.loop-at.at ≡ 0 = omega arith in
    cases.turn_done c.args.trees.now c.args.target c.args.self.now c.loop-at.self c.loop-at.next c.requires (subst (λ (k : ℕ). cases.TurnFront (drop k c.args.trees.now) c.args.target c.args.self.now c.loop-at.self c.loop-at.next) e c.loop-at.invariant)

pub grow_one_of-grow-requires : goal.grow_one_of-grow-requires
grow_one_of-grow-requires t c =
    let can : CanGrow c.tree-item.result c.args.target c.loop-tree.self = members.one_can c.args.trees.now c.loop-tree.tree-index c.tree-item.result c.args.target c.args.self.now c.loop-tree.self c.loop-tree-test.true c.tree-item.is c.requires c.loop-tree.invariant (sym c.of.ensures ∙ c.in-Long.is) in
    let nodes = nodes_at c.args.trees.now c.loop-tree.tree-index c.tree-item.result c.loop-tree-test.true in
    let smaller : nodes_of c.tree-item.result < 1 + all_nodes c.args.trees.now = rw c.tree-item.is (omega arith) in
    search rules

pub grow_one_of-loop-tree-preserved : goal.grow_one_of-loop-tree-preserved
grow_one_of-loop-tree-preserved t c = elim c.match-of.branch [
  | grow_one_of-in-Long+in_ok-grow-in-Long w ↦ rw w.self-is (members.one_long c.args.trees.now c.loop-tree.tree-index c.tree-item.result c.args.target c.args.self.now c.loop-tree.self c.loop-tree-test.true c.tree-item.is c.requires c.loop-tree.invariant w.grow.new.self w.in_ok-grow-in-Long.ensures)
  | grow_one_of-in-Empty w ↦ absurd (members.one_empty c.args.trees.now c.loop-tree.tree-index c.tree-item.result c.args.target c.args.self.now c.loop-tree.self c.loop-tree-test.true c.tree-item.is c.requires c.loop-tree.invariant (sym c.of.ensures ∙ w.in-Empty.is))
  | grow_one_of-in-Dead w ↦ rw w.self-is (members.one_dead c.args.trees.now c.loop-tree.tree-index c.tree-item.result c.args.target c.args.self.now c.loop-tree.self c.loop-tree-test.true c.tree-item.is c.requires c.loop-tree.invariant (sym c.of.ensures ∙ w.in-Dead.is))
]

pub grow_one_of-returns : goal.grow_one_of-returns
grow_one_of-returns t c =
    let all : take c.loop-tree.tree-index c.args.trees.now ≡ c.args.trees.now = take_all c.loop-tree.tree-index c.args.trees.now c.loop-tree-test.false in
    members.one_done c.args.trees.now c.args.target c.args.self.now c.loop-tree.self c.requires (subst (λ (ts : List Tree). members.OneFront ts c.args.target c.args.self.now c.loop-tree.self) all c.loop-tree.invariant)

pub grow_times-seal-requires-clause-room : goal.grow_times-seal-requires-clause-room
grow_times-seal-requires-clause-room t c =
    let mark : c.len-mark.result ≡ length c.args.self.now.head.items = search rules in
    times.times_room c.args.count c.args.part.now c.args.target c.args.self.now c.requires c.loop-turn.turn c.len-mark.result c.loop-turn.self c.loop-turn.next c.loop-turn-test.true mark c.loop-turn.invariant

pub grow_times-grow-requires : goal.grow_times-grow-requires
grow_times-grow-requires t c =
    let mark : c.len-mark.result ≡ length c.args.self.now.head.items = search rules in
    let placed = times.times_placed c.args.count c.args.part.now c.args.target c.args.self.now c.requires c.loop-turn.turn c.len-mark.result c.loop-turn.self c.seal.new.self c.loop-turn.next c.in_ok-next.next mark c.loop-turn.invariant c.in_ok-next.ensures in
    let can : CanGrow c.args.part.now c.in_ok-next.next c.seal.new.self = times.times_can c.args.count c.args.part.now c.args.target c.args.self.now c.requires c.loop-turn.turn c.seal.new.self c.in_ok-next.next c.loop-turn-test.true placed in
    let smaller : nodes_of c.args.part.now < 1 + nodes_of c.args.part.now = omega arith in
    search rules

pub grow_times-loop-turn-preserved : goal.grow_times-loop-turn-preserved
grow_times-loop-turn-preserved t c =
    let mark : c.len-mark.result ≡ length c.args.self.now.head.items = search rules in
    let placed = times.times_placed c.args.count c.args.part.now c.args.target c.args.self.now c.requires c.loop-turn.turn c.len-mark.result c.loop-turn.self c.seal.new.self c.loop-turn.next c.in_ok-next.next mark c.loop-turn.invariant c.in_ok-next.ensures in
    times.times_more c.args.count c.args.part.now c.args.target c.args.self.now c.requires c.loop-turn.turn c.seal.new.self c.grow.new.self c.in_ok-next.next placed c.in_ok-grow.ensures

pub grow_times-returns : goal.grow_times-returns
grow_times-returns t c =
    let e : c.loop-turn.turn ≡ c.args.count = (let a = c.loop-turn-test.false in let b = c.loop-turn.auto.turn-end in omega arith) in
    times.times_done c.args.count c.args.part.now c.args.target c.args.self.now c.requires c.loop-turn.self c.loop-turn.next (subst (λ (k : ℕ). times.TimesFront k c.args.part.now c.args.target c.args.self.now c.loop-turn.self c.loop-turn.next) e c.loop-turn.invariant)
