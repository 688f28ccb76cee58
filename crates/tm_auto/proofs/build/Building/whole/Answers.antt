use Rattle.std.proofs.Common.{sym, ◌∙◌}
use Rattle.tm_auto.proofs.BuiltLemmas.{begin_can, begin_long, begin_empty, begin_dead}
use Rattle.tm_auto.proofs.build.Building.whole.Goals as goal

pub grow-requires : goal.grow-requires
grow-requires c = begin_can c.args.tree.now c.args.self.now c.requires (sym c.of.ensures ∙ c.in-Long.is)

pub returns-in-Dead-clause-none : goal.returns-in-Dead-clause-none
returns-in-Dead-clause-none c = begin_dead c.args.tree.now c.args.self.now c.requires (sym c.of.ensures ∙ c.in-Dead.is)

pub returns-in-Empty-clause-start : goal.returns-in-Empty-clause-start
returns-in-Empty-clause-start c = begin_empty c.args.tree.now c.args.self.now c.requires (sym c.of.ensures ∙ c.in-Empty.is)

pub returns-in_ok-start-in-Long-clause-start : goal.returns-in_ok-start-in-Long-clause-start
returns-in_ok-start-in-Long-clause-start c = begin_long c.args.tree.now c.args.self.now c.requires c.grow.new.self c.seal.new.self c.in_ok-start-in-Long.start c.in_ok-grow-in-Long.ensures c.in_ok-start-in-Long.ensures
