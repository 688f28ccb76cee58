use Rattle.std.proofs.Common.{List, drop}
use Rattle.tm_walk.specs.Layers.{Entry, AreOffered, offers}
use Rattle.tm_walk.proofs.advance.Walk.offer_steps.Given as goal

-- what the symbols that are left make of the next layer so far, all make of what it was
abbrev pub invariant-loop-symbol : goal.invariant-loop-symbol
invariant-loop-symbol g l = (after : List Entry)
    → AreOffered (offers (g.M.RefTest.test l.self.refs.now) l.self.src.now l.self.dst.now l.from l.to l.k (drop l.symbol-index l.symbols)) l.next after
    → AreOffered (offers (g.M.RefTest.test l.self.refs.now) l.self.src.now l.self.dst.now l.from l.to l.k l.symbols) l.initial.next after
