use Rattle.tm_base.specs.Rules.{HasTargetWord}
use Rattle.tm_base.specs.Worlds.{tables_of}
use Rattle.tm_judge.specs.Ready.{HasStart}
use Rattle.tm_judge.proofs.ReadyLemmas.{value-start, target-start}
use Rattle.tm_judge.proofs.ValueLemmas.{empty-yes, whole-no}
use Rattle.tm_judge.proofs.values.answer.Goals as goal

pub returns-then-not-branch-clause-answer : goal.returns-then-not-branch-clause-answer
returns-then-not-branch-clause-answer g c =
    empty-yes c.args.world.now c.args.ask.now c.args.compat.now c.args.automata.now.src.now c.args.automata.now.dst.now c.requires.ready c.law.ensures.reads
    (λ some. cc (c.in_ok-has_start.ensures.1 some, c.if-not-branch.true))

pub returns-then-not-branch-2-clause-answer : goal.returns-then-not-branch-2-clause-answer
returns-then-not-branch-2-clause-answer g c =
    let started : HasStart c.args.automata.now.src.now = c.in_ok-has_start.ensures.0 (cc (c.if-not-branch.false)) in
    let (w, value) = (value-start c.args.world.now c.args.ask.now c.args.compat.now c.args.automata.now.src.now c.args.automata.now.dst.now c.requires.ready c.law.ensures.reads).0 started in
    let none : ¬ HasTargetWord (tables_of c.args.world.now) c.args.ask.now c.args.ask.now.assume.safety = λ has. cc (c.in_ok-has_start-2.ensures.1 ((target-start c.args.world.now c.args.ask.now c.args.compat.now c.args.automata.now.src.now c.args.automata.now.dst.now c.requires.ready c.law-2.ensures.reads).1 has), c.if-not-branch-2.true) in
    whole-no c.args.world.now c.args.ask.now c.args.compat.now c.args.automata.now.src.now c.args.automata.now.dst.now c.requires.ready w value none c.in_ok-rule.rule (c.in_ok-rule.ensures none)
