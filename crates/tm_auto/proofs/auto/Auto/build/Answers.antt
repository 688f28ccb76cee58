use Rattle.tm_auto.proofs.BuiltLemmas.{begin, of_none, of_some}
use Rattle.tm_auto.proofs.auto.Auto.build.Goals as goal

pub whole-requires : goal.whole-requires
whole-requires c =
    begin c.args.tree.now c.new-b.result c.args.size c.args.pointer c.requires.pointer c.requires.public c.requires.leaves c.requires.sized c.new-b.ensures.edges c.new-b.ensures.states c.new-b.ensures.head c.new-b.ensures.pointer

pub invariant_of-result : goal.invariant_of-result
invariant_of-result c =
    let can = begin c.args.tree.now c.new-b.result c.args.size c.args.pointer c.requires.pointer c.requires.public c.requires.leaves c.requires.sized c.new-b.ensures.edges c.new-b.ensures.states c.new-b.ensures.head c.new-b.ensures.pointer in
    (of_none c.args.tree.now c.new-b.result c.args.size c.args.pointer _ _ can c.new-b.ensures.pointer (rw c.in-None.is at c.in_ok-whole.ensures.none) c.new.ensures c.new-in-None.ensures).automaton

pub invariant_of-result-in-Some : goal.invariant_of-result-in-Some
invariant_of-result-in-Some c =
    let can = begin c.args.tree.now c.new-b.result c.args.size c.args.pointer c.requires.pointer c.requires.public c.requires.leaves c.requires.sized c.new-b.ensures.edges c.new-b.ensures.states c.new-b.ensures.head c.new-b.ensures.pointer in
    rw c.in_ok-of-in-Some.ensures (of_some c.args.tree.now c.new-b.result c.whole.new.self c.args.size c.args.pointer c.in-Some.start _ can c.new-b.ensures.pointer c.requires.sized (rw c.in-Some.is at c.in_ok-whole.ensures.start) c.of_one.ensures).automaton

pub returns-in-None-clause-words : goal.returns-in-None-clause-words
returns-in-None-clause-words c =
    let can = begin c.args.tree.now c.new-b.result c.args.size c.args.pointer c.requires.pointer c.requires.public c.requires.leaves c.requires.sized c.new-b.ensures.edges c.new-b.ensures.states c.new-b.ensures.head c.new-b.ensures.pointer in
    (of_none c.args.tree.now c.new-b.result c.args.size c.args.pointer _ _ can c.new-b.ensures.pointer (rw c.in-None.is at c.in_ok-whole.ensures.none) c.new.ensures c.new-in-None.ensures).words

pub returns-in_ok-of-in-Some-clause-words : goal.returns-in_ok-of-in-Some-clause-words
returns-in_ok-of-in-Some-clause-words c =
    let can = begin c.args.tree.now c.new-b.result c.args.size c.args.pointer c.requires.pointer c.requires.public c.requires.leaves c.requires.sized c.new-b.ensures.edges c.new-b.ensures.states c.new-b.ensures.head c.new-b.ensures.pointer in
    rw c.in_ok-of-in-Some.ensures (of_some c.args.tree.now c.new-b.result c.whole.new.self c.args.size c.args.pointer c.in-Some.start _ can c.new-b.ensures.pointer c.requires.sized (rw c.in-Some.is at c.in_ok-whole.ensures.start) c.of_one.ensures).words

pub returns-in_ok-of-in-Some-clause-single : goal.returns-in_ok-of-in-Some-clause-single
returns-in_ok-of-in-Some-clause-single c =
    let can = begin c.args.tree.now c.new-b.result c.args.size c.args.pointer c.requires.pointer c.requires.public c.requires.leaves c.requires.sized c.new-b.ensures.edges c.new-b.ensures.states c.new-b.ensures.head c.new-b.ensures.pointer in
    rw c.in_ok-of-in-Some.ensures (of_some c.args.tree.now c.new-b.result c.whole.new.self c.args.size c.args.pointer c.in-Some.start _ can c.new-b.ensures.pointer c.requires.sized (rw c.in-Some.is at c.in_ok-whole.ensures.start) c.of_one.ensures).single
