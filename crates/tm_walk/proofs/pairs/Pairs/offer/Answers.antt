use Rattle.std.proofs.Common.{◌∙◌, sym, inl, refl, []}
use Rattle.tm_walk.proofs.PairLemmas.{still_within, there_offered, last_row, new_within, new_offered}
use Rattle.tm_walk.proofs.pairs.Pairs.offer.Goals as goal

pub invariant_of-self : goal.invariant_of-self
invariant_of-self c = still_within c.self.inside.sources _ c.number.new.self _ c.args.pair.src [] c.number.ensures.grown (inl refl) c.self.inside.pairs.entries c.self.invariant

pub invariant_of-self-in_err-target : goal.invariant_of-self-in_err-target
invariant_of-self-in_err-target c = still_within c.self.inside.sources c.self.inside.targets c.number.new.self c.number-2.new.self c.args.pair.src c.args.pair.dst c.number.ensures.grown c.number-2.ensures.grown c.self.inside.pairs.entries c.self.invariant

pub invariant_of-self-then-contains_key : goal.invariant_of-self-then-contains_key
invariant_of-self-then-contains_key c = still_within c.self.inside.sources c.self.inside.targets c.number.new.self c.number-2.new.self c.args.pair.src c.args.pair.dst c.number.ensures.grown c.number-2.ensures.grown c.self.inside.pairs.entries c.self.invariant

pub invariant_of-self-in_err-insert : goal.invariant_of-self-in_err-insert
invariant_of-self-in_err-insert c = rw c.in_err-insert.ensures.err (still_within c.self.inside.sources c.self.inside.targets c.number.new.self c.number-2.new.self c.args.pair.src c.args.pair.dst c.number.ensures.grown c.number-2.ensures.grown c.self.inside.pairs.entries c.self.invariant)

pub returns-then-contains_key : goal.returns-then-contains_key
returns-then-contains_key c =
    let s = c.in_ok-source.ensures in
    let t = c.in_ok-target.ensures in
    rw (← c.self.view_is) (there_offered c.self.inside.sources c.self.inside.targets c.number.new.self c.number-2.new.self c.args.pair.src c.args.pair.dst c.in_ok-source.source c.in_ok-target.target
    c.number.ensures.grown c.number-2.ensures.grown s.number s.only t.number t.only c.self.inside.pairs.entries c.self.invariant (sym c.contains_key.ensures ∙ c.if-contains_key.true) c.args.pair.way)

pub invariant_of-self-2 : goal.invariant_of-self-2
invariant_of-self-2 c =
    let s = c.in_ok-source.ensures in
    let t = c.in_ok-target.ensures in
    let e = c.in_ok-insert.ensures.entries ∙ last_row c.self.inside.sources c.self.inside.targets c.number.new.self c.number-2.new.self c.args.pair.src c.args.pair.dst c.in_ok-source.source c.in_ok-target.target
    c.number.ensures.grown c.number-2.ensures.grown s.number s.only t.number t.only c.self.inside.pairs.entries c.self.invariant (sym c.contains_key.ensures ∙ c.if-contains_key.false) c.args.pair.way in
    rw e (new_within c.self.inside.sources c.self.inside.targets c.number.new.self c.number-2.new.self c.args.pair.src c.args.pair.dst c.in_ok-source.source c.in_ok-target.target
    c.number.ensures.grown c.number-2.ensures.grown s.number s.only t.number t.only c.self.inside.pairs.entries c.self.invariant c.args.pair.way)

pub returns : goal.returns
returns c =
    let s = c.in_ok-source.ensures in
    let t = c.in_ok-target.ensures in
    let absent = sym c.contains_key.ensures ∙ c.if-contains_key.false in
    let e = c.in_ok-insert.ensures.entries ∙ last_row c.self.inside.sources c.self.inside.targets c.number.new.self c.number-2.new.self c.args.pair.src c.args.pair.dst c.in_ok-source.source c.in_ok-target.target
    c.number.ensures.grown c.number-2.ensures.grown s.number s.only t.number t.only c.self.inside.pairs.entries c.self.invariant absent c.args.pair.way in
    rw (e, ← c.self.view_is) (new_offered c.self.inside.sources c.self.inside.targets c.number.new.self c.number-2.new.self c.args.pair.src c.args.pair.dst c.in_ok-source.source c.in_ok-target.target
    c.number.ensures.grown c.number-2.ensures.grown s.number s.only t.number t.only c.self.inside.pairs.entries c.self.invariant absent c.args.pair.way)
