use Rattle.std.proofs.Common.{sym}
use Rattle.tm_ground.proofs.finding.FindingLemmas.{finds-named, finds-none}
use Rattle.tm_ground.proofs.collector.Collector.add_own.Goals as goal

pub returns-then-is_named : goal.returns-then-is_named
returns-then-is_named c = λ resolved sound o.
    finds-named resolved c.args.self.now _ sound o c.insert.new.self c.insert.result (sym c.if-is_named.ensures) (sym c.if-is_ref.ensures) c.requires (rw c.type_limit.ensures at c.insert.ensures)

pub returns : goal.returns
returns c = λ resolved sound o. finds-none resolved c.args.self.now _ sound o (sym c.if-is_named.ensures) (sym c.if-is_ref.ensures)
