use Rattle.std.proofs.Common.{◌≡◌, ◌<◌, ◌≤◌, ℕ, ◌∙◌, sym, ap, subst, arith, List, length, take, min}
use Rattle.std.proofs.lemmas.List.{take_all}
use Rattle.tm_base.specs.declared.cell.Cell.{Cell}
use Rattle.tm_base.specs.Transmutes.{is_itself}
use Rattle.tm_auto.specs.Automata.{Automaton, reached}
use Rattle.tm_auto.specs.Classes.{TakesFrom}
use Rattle.tm_walk.specs.Words.{IsWithLeast}
use Rattle.tm_walk.proofs.CompletionLemmas.{begin, go_on, next_some, finish}
use Rattle.tm_walk.proofs.completion.least_word.Goals as goal

pub rest-init : goal.rest-init
rest-init c = record {
  src = c.given.invariant.src;
  begun = begin c.args.src.now c.law.ensures.automaton c.law.ensures.reads c.args.cells.now c.given.reading.word c.requires
      (c.given.invariant.word ∙ take_all c.given.cell-index (take c.min.result c.args.cells.now) c.given-test.false
      ∙ ap (λ (n : ℕ). take n c.args.cells.now) (c.min.ensures ∙ ap (min (length c.args.cells.now)) c.size-size.ensures));
}

pub read_least-requires : goal.read_least-requires
read_least-requires c =
    let src = c.args.src.now in
    let l : length c.rest.reading.word < src.size = (let t = c.rest-test.true in let e = c.len.ensures in let z = c.size-size.ensures in omega arith) in
    let some = next_some src c.law.ensures.automaton c.law.ensures.reads c.args.cells.now c.rest.reading.word c.rest.invariant.begun l in
    let at : c.rest.reading.set ≡ reached is_itself src c.rest.reading.word = c.rest.reading.reached ∙ ap (λ (a : Automaton). reached is_itself a c.rest.reading.word) c.rest.invariant.src in
    subst (λ (a : Automaton). (x : Cell) × TakesFrom a c.rest.reading.set x) (sym c.rest.invariant.src) (subst (λ (z : List ℕ). (x : Cell) × TakesFrom src z x) (sym at) some)

pub rest-preserved : goal.rest-preserved
rest-preserved c =
    let src = c.args.src.now in
    let l : length c.rest.reading.word < src.size = (let t = c.rest-test.true in let e = c.len.ensures in let z = c.size-size.ensures in omega arith) in
    let at : c.rest.reading.set ≡ reached is_itself src c.rest.reading.word = c.rest.reading.reached ∙ ap (λ (a : Automaton). reached is_itself a c.rest.reading.word) c.rest.invariant.src in
    let next : IsWithLeast src (reached is_itself src c.rest.reading.word) c.rest.reading.word c.read_least.new.self.word =
    subst (λ (z : List ℕ). IsWithLeast src z c.rest.reading.word c.read_least.new.self.word) at
    (subst (λ (a : Automaton). IsWithLeast a c.rest.reading.set c.rest.reading.word c.read_least.new.self.word) c.rest.invariant.src c.in_ok-read_least.ensures.word) in
    record {
      src = c.read_least.ensures.src ∙ c.rest.invariant.src;
      begun = rw next.longer (go_on src c.law.ensures.automaton c.law.ensures.reads c.args.cells.now c.rest.reading.word next.cell c.rest.invariant.begun l next.least);
    }

pub returns : goal.returns
returns c =
    let l : c.args.src.now.size ≤ length c.rest.reading.word = (let t = c.rest-test.false in let e = c.len.ensures in let z = c.size-size.ensures in omega arith) in
    finish c.args.src.now c.law.ensures.automaton c.law.ensures.reads c.args.cells.now c.rest.reading.word c.rest.invariant.begun l
