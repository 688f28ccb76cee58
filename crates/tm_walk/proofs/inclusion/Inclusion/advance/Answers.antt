use Rattle.std.proofs.Common.{◌∙◌, List, length, sym, subst, arith, Contains}
use Rattle.std.proofs.lemmas.Bool.{eqb-true}
use Rattle.std.proofs.lemmas.List.Elements.{Contains-append_left, Contains-append_right}
use Rattle.tm_walk.specs.declared.obligation.Obligation.{Obligation}
use Rattle.tm_walk.specs.Obligations.{AreAdded, Follows, FollowsSome, HaveOneTarget}
use Rattle.tm_walk.proofs.AddedLemmas.{added_parts, added_end}
use Rattle.tm_walk.proofs.inclusion.Inclusion.advance.Goals as goal

pub loop-rest-init : goal.loop-rest-init
loop-rest-init g c =
    let follows = FollowsSome (g.M.RefTest.test c.args.self.now.refs.now) c.args.self.now.src.now c.args.self.now.dst.now c.args.place in
    record {
      made = λ after h. subst (λ (z : List Obligation). AreAdded (follows c.args.layer.now) z after) c.new-next.ensures
          (subst (λ (z : List Obligation). AreAdded (follows z) c.new-next.result after) c.as_slice-rest.ensures h);
      states = λ o m. c.requires.states o (subst (λ (z : List Obligation). Contains z o) c.as_slice-rest.ensures m);
    }

pub expand-requires : goal.expand-requires
expand-requires g c =
    let parts = c.split_at.ensures in
    record {
      some = (let a = c.group_length.ensures.some in let b = parts.front_len in omega arith);
      states = λ o m. c.loop-rest.invariant.states o (subst (λ (z : List Obligation). Contains z o) (sym parts.by_index.0) (Contains-append_left _ c.split_at.result.1.now _ m));
      one = subst HaveOneTarget (sym parts.front) c.group_length.ensures.one;
    }

pub loop-rest-preserved : goal.loop-rest-preserved
loop-rest-preserved g c =
    let parts = c.split_at.ensures in
    let follows = Follows (g.M.RefTest.test c.args.self.now.refs.now) c.args.self.now.src.now c.args.self.now.dst.now c.args.place in
    let some = FollowsSome (g.M.RefTest.test c.args.self.now.refs.now) c.args.self.now.src.now c.args.self.now.dst.now c.args.place in
    record {
      made = λ after h. c.loop-rest.invariant.made after (subst (λ (z : List Obligation). AreAdded (some z) c.loop-rest.next after) (sym parts.by_index.0)
          (added_parts follows c.split_at.result.0.now c.split_at.result.1.now c.loop-rest.next c.expand.new.next after c.in_ok-expand.ensures h));
      states = λ o m. c.loop-rest.invariant.states o (subst (λ (z : List Obligation). Contains z o) (sym parts.by_index.0) (Contains-append_right c.split_at.result.0.now _ _ m));
    }

pub returns : goal.returns
returns g c =
    let follows = Follows (g.M.RefTest.test c.args.self.now.refs.now) c.args.self.now.src.now c.args.self.now.dst.now c.args.place in
    let none = eqb-true (length c.loop-rest.rest.now) 0 (sym c.is_empty.ensures ∙ c.loop-rest-test.false) in
    c.loop-rest.invariant.made c.loop-rest.next (added_end follows c.loop-rest.rest.now 0 (omega arith) c.loop-rest.next)
