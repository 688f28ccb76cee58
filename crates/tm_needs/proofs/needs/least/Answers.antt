use Rattle.std.proofs.Common.{◌≡◌, sym, ◌∙◌, ap, subst, arith, ◌+◌, true, false, Bool}
use Rattle.tm_base.specs.declared.ask.Ask.{Ask}
use Rattle.tm_base.specs.declared.assume.Assume.{Assume}
use Rattle.tm_needs.specs.Least.{IsNew, IncludesSome}
use Rattle.tm_needs.proofs.LeastLemmas.{Found, Found-all, Found-next}
use Rattle.tm_needs.proofs.needs.least.Goals as goal
use Rattle.tm_needs.proofs.needs.least.Goals.{then-branch+in_ok-add, else-branch}

pub loop-number-preserved : goal.loop-number-preserved
loop-number-preserved g c =
    let tables = g.J.AskYes.told c.args.judge.now in
    let src = c.args.src.now in
    let dst = c.args.dst.now in
    let inv = c.loop-number.invariant in
    let n = c.loop-number.number in
    let sets = c.loop-number.sets in
    let a : Assume = c.set_of-ask.result in
    let ask : Ask = record { src = c.loop-number.ask.src; dst = c.loop-number.ask.dst; assume = a } in
    let now = g.J.AskYes.told c.loop-number.judge in
    let new : IsNew now ask sets c.in_ok-is_new.field-0 = subst (λ s. IsNew now ask s c.in_ok-is_new.field-0) c.as_slice.ensures c.in_ok-is_new.ensures.new in
    record {
      found = elim c.if-branch.branch [
        | then-branch+in_ok-add w ↦
            subst (λ s. Found tables src dst (n + 1) s) (sym (w.sets-is ∙ w.in_ok-add.ensures.added))
            (Found-next tables src dst n sets now ask inv.world inv.source inv.target inv.found c.set_of-ask.ensures true (subst (λ b. IsNew now ask sets b) w.if-branch.true new))
        | else-branch w ↦
            subst (λ s. Found tables src dst (n + 1) s) (sym w.sets-is)
            (Found-next tables src dst n sets now ask inv.world inv.source inv.target inv.found c.set_of-ask.ensures false (subst (λ b. IsNew now ask sets b) w.if-branch.false new))
      ];
      source = inv.source;
      target = inv.target;
      world = c.in_ok-is_new.ensures.world ∙ inv.world;
    }

pub returns-clause-least : goal.returns-clause-least
returns-clause-least g c =
    let tables = g.J.AskYes.told c.args.judge.now in
    let src = c.args.src.now in
    let dst = c.args.dst.now in
    let sets = c.loop-number.sets in
    let last : c.loop-number.number ≡ 16 = omega (arith, c.loop-number-test.false, c.loop-number.auto) in
    Found-all tables src dst sets (subst (λ n. Found tables src dst n sets) last c.loop-number.invariant.found)
