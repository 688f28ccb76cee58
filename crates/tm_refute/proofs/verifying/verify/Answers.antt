use Rattle.std.proofs.lemmas.Result.{IfOk-weaker}
use Rattle.tm_base.specs.Worlds.{tables_of}
use Rattle.tm_base.proofs.HeldLemmas.{judged-laid_out}
use Rattle.tm_refute.proofs.checking.ShownLemmas.{refutes-from}
use Rattle.tm_refute.proofs.verifying.verify.Goals as goal

pub breaks-requires-clause-source : goal.breaks-requires-clause-source
breaks-requires-clause-source c = record {
  over = c.requires.source;
  sound = judged-laid_out (tables_of c.args.world.now) c.args.ask.now.src c.requires.source (c.in_ok-is_judged.ensures.0 c.if-not-branch.false);
}

pub breaks-requires-clause-target : goal.breaks-requires-clause-target
breaks-requires-clause-target c = record {
  over = c.requires.target;
  sound = judged-laid_out (tables_of c.args.world.now) c.args.ask.now.dst c.requires.target (c.in_ok-is_judged-2.ensures.0 c.if-not-branch-2.false);
}

pub returns : goal.returns
returns c = record {
  exact =
      IfOk-weaker c.all_hold.result _ _
      (λ b. refutes-from (tables_of c.args.world.now) c.args.ask.now c.args.x.now c.if-ask.false
      (record { source_judged = c.in_ok-is_judged.ensures.0 c.if-not-branch.false; target_judged = c.in_ok-is_judged-2.ensures.0 c.if-not-branch-2.false })
      c.as_slice-entries.result.now c.as_slice-entries.ensures (c.in_ok-breaks.ensures.0 c.if-not-branch-3.false) b)
      c.all_hold.ensures;
}
