use Rattle.std.proofs.Common.{◌<◌, ◌≤◌, Bool, List, [], ◌∷◌, ℕ, get_or, Result, Ok, Err, OnOk, sym, subst, arith, Contains}
use Rattle.std.proofs.lemmas.List.Elements.{Contains-get_or}
use Rattle.tm_base.proofs.JudgedLemmas.{Contains-none}
use Rattle.tm_auto.specs.declared.edge.Symbol.{Symbol}
use Rattle.tm_auto.specs.declared.edge.Symbol.TheVariants.{Uninit}
use Rattle.tm_auto.specs.Automata.{Automaton, IsStep}
use Rattle.tm_auto.specs.Sets.{next}
use Rattle.tm_walk.specs.declared.obligation.Obligation.{Obligation}
use Rattle.tm_walk.specs.Obligations.{AreAdded, FollowsGroup, Stays}
use Rattle.tm_walk.proofs.AddedLemmas.{added_one, added_turn, added_end}
use Rattle.tm_walk.proofs.ExpandLemmas.{step_is}
use Rattle.tm_walk.proofs.FollowLemmas.{follows_within, follows_behind}
use Rattle.tm_walk.proofs.GroupLemmas.{states_are, states_have}
use Rattle.tm_walk.proofs.inclusion.Inclusion.expand.Goals as goal

on_ok : {T E : Type 0} (r : Result T E) (P Q : Type 0) → (P → Q) → OnOk r P → OnOk r Q
on_ok (Ok x) P Q f p = f p
on_ok (Err x) P Q f p = tt

pub step-requires : goal.step-requires
step-requires g c = (c.requires.states _ (Contains-get_or c.args.group.now 0 c.index-group-0.result c.requires.some)).target

pub step-requires-in-loop-symbol : goal.step-requires-in-loop-symbol
step-requires-in-loop-symbol g c = (c.requires.states _ (Contains-get_or c.args.group.now 0 c.index-group-0.result c.requires.some)).target

pub only_step-requires-clause-to : goal.only_step-requires-clause-to
only_step-requires-clause-to g c = (c.requires.states _ (Contains-get_or c.args.group.now 0 c.index-group-0.result c.requires.some)).target

pub only_step-requires-clause-from : goal.only_step-requires-clause-from
only_step-requires-clause-from g c = λ s m.
    states_are (λ (n : ℕ). n < c.args.self.now.src.now.states) c.args.group.now [] (λ t n. absurd (Contains-none _ n)) (λ o n. (c.requires.states o n).state) s
    (subst (λ (z : List ℕ). Contains z s) c.in_ok-states.ensures m)

pub classes-requires-clause-to : goal.classes-requires-clause-to
classes-requires-clause-to g c = (c.requires.states _ (Contains-get_or c.args.group.now 0 c.index-group-0.result c.requires.some)).target

pub classes-requires-clause-from : goal.classes-requires-clause-from
classes-requires-clause-from g c = λ s m.
    states_are (λ (n : ℕ). n < c.args.self.now.src.now.states) c.args.group.now [] (λ t n. absurd (Contains-none _ n)) (λ o n. (c.requires.states o n).state) s
    (subst (λ (z : List ℕ). Contains z s) c.in_ok-states.ensures m)

stepped : (A : ℕ → ℕ → Bool) (src dst : Automaton) (os : List Obligation) (target : List ℕ) (x : Symbol) (set : List ℕ) (before after : List Obligation) → IsStep A dst target x set
    → AreAdded (FollowsGroup src x set os) before after → AreAdded (FollowsGroup src x (next A dst.edges target x) os) before after
stepped A src dst os target x set before after step a = subst (λ (z : List ℕ). AreAdded (FollowsGroup src x z os) before after) (step_is A dst target x set step) a

pub loop-symbol-preserved : goal.loop-symbol-preserved
loop-symbol-preserved g c =
    let A = g.M.RefTest.test c.args.self.now.refs.now in
    let src = c.args.self.now.src.now in
    let dst = c.args.self.now.dst.now in
    let os = c.args.group.now in
    let target = (get_or os 0 c.index-group-0.result).target in
    let xs = c.as_slice-symbol-items.result.now in
    λ after h. c.loop-symbol.invariant after
    (added_turn (λ (x : Symbol). FollowsGroup src x (next A dst.edges target x) os) xs c.loop-symbol.symbol-index _ c.loop-symbol-test.true c.loop-symbol.next c.follow-in-loop-symbol.new.next after
    (stepped A src dst os target _ _ _ _ c.in_ok-behind-2.ensures.step c.in_ok-follow.ensures) h)

pub returns-then-place-size : goal.returns-then-place-size
returns-then-place-size g c =
    let A = g.M.RefTest.test c.args.self.now.refs.now in
    let src = c.args.self.now.src.now in
    let dst = c.args.self.now.dst.now in
    let os = c.args.group.now in
    let target = (get_or os 0 c.index-group-0.result).target in
    let first = Contains-get_or os 0 c.index-group-0.result c.requires.some in
    let behind : src.size ≤ c.args.place = (let t = c.if-place-size.true in let e = c.size.ensures in omega arith) in
    on_ok c.stay.result _ _
    (λ a. follows_behind A src dst c.args.place os target (λ o m. c.requires.one o _ m first) behind _ _
    (subst (λ (z : List ℕ). AreAdded (Stays z os) c.args.next.now c.stay.new.next) (step_is A dst target Uninit _ c.in_ok-behind.ensures.step) a)) c.stay.ensures

pub returns-in-Some : goal.returns-in-Some
returns-in-Some g c =
    let A = g.M.RefTest.test c.args.self.now.refs.now in
    let src = c.args.self.now.src.now in
    let dst = c.args.self.now.dst.now in
    let os = c.args.group.now in
    let target = (get_or os 0 c.index-group-0.result).target in
    let x = c.in-Some.step.symbol in
    let first = Contains-get_or os 0 c.index-group-0.result c.requires.some in
    let within : c.args.place < src.size = (let t = c.if-place-size.false in let e = c.size.ensures in omega arith) in
    on_ok c.follow.result _ _
    (λ a. follows_within A src dst c.args.place os target (λ o m. c.requires.one o _ m first) within c.in_ok-states.states
    (λ o m. subst (λ (z : List ℕ). Contains z o.state) (sym c.in_ok-states.ensures) (states_have os [] o m)) (x ∷ []) c.in-Some.ensures.classes c.args.next.now c.follow.new.next
    (added_one (λ (y : Symbol). FollowsGroup src y (next A dst.edges target y) os) x c.args.next.now c.follow.new.next
    (stepped A src dst os target x _ _ _ c.in-Some.ensures.target a))) c.follow.ensures

pub returns : goal.returns
returns g c =
    let A = g.M.RefTest.test c.args.self.now.refs.now in
    let src = c.args.self.now.src.now in
    let dst = c.args.self.now.dst.now in
    let os = c.args.group.now in
    let target = (get_or os 0 c.index-group-0.result).target in
    let xs = c.as_slice-symbol-items.result.now in
    let first = Contains-get_or os 0 c.index-group-0.result c.requires.some in
    let within : c.args.place < src.size = (let t = c.if-place-size.false in let e = c.size.ensures in omega arith) in
    follows_within A src dst c.args.place os target (λ o m. c.requires.one o _ m first) within c.in_ok-states.states
    (λ o m. subst (λ (z : List ℕ). Contains z o.state) (sym c.in_ok-states.ensures) (states_have os [] o m)) xs (rw c.as_slice-symbol-items.ensures c.in_ok-symbols.ensures) c.args.next.now c.loop-symbol.next
    (c.loop-symbol.invariant c.loop-symbol.next (added_end (λ (x : Symbol). FollowsGroup src x (next A dst.edges target x) os) xs c.loop-symbol.symbol-index c.loop-symbol-test.false c.loop-symbol.next))
