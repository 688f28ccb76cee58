use Rattle.std.proofs.Common.{None, List, take, length}
use Rattle.tm_base.specs.Rules.{target}
use Rattle.tm_base.specs.Worlds.{tables_of}
use Rattle.tm_refute.specs.Asking.{IsAskedBy}
use Rattle.tm_refute.specs.Entries.{AreEntriesFor, AreKept}
use Rattle.tm_refute.specs.declared.refutation.Entry.{Entry}
use Rattle.tm_refute.proofs.refuting.maker.Maker.entries.Given as goal

-- the entries for the pairs so far
abbrev pub invariant-loop-pair : goal.invariant-loop-pair
invariant-loop-pair l =
    (entries : List Entry)
    × AreEntriesFor (tables_of l.self.world.now) l.ask (IsAskedBy (tables_of l.self.world.now) l.ask.assume None (target (tables_of l.self.world.now) l.ask) l.top) (take l.pair-index l.pair-items) l.asked entries
    × AreKept (length l.top.word) entries l.made
