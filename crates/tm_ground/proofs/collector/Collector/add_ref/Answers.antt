use Rattle.std.proofs.Common.{subst, ◌∷◌, [], Err}
use Rattle.tm_ground.specs.Closed.{closed}
use Rattle.tm_ground.specs.Growing.{Adding}
use Rattle.tm_ground.specs.Limits.{ref_limit}
use Rattle.tm_ground.specs.Sets.{closed_types}
use Rattle.tm_ground.proofs.finding.FindingLemmas.{finds-ref, finds-many, finds-no_more}
use Rattle.tm_ground.proofs.collector.Collector.add_ref.Goals as goal

pub returns-then-self : goal.returns-then-self
returns-then-self c = λ resolved sound o. finds-no_more resolved c.args.self.now _ sound o c.requires c.if-self.true

pub returns-in-Ok : goal.returns-in-Ok
returns-in-Ok c = λ resolved sound o. finds-ref resolved c.args.self.now _ sound o c.insert.new.self c.requires c.if-self.false (rw c.ref_limit.ensures at c.in-Ok.ensures)

pub returns-in-Err-Full : goal.returns-in-Err-Full
returns-in-Err-Full c = λ resolved sound o.
    let full = subst (λ limit. Adding limit (closed_types c.args.self.now.found.refs) (closed c.args.ty.now ∷ []) (closed_types c.insert.new.self) (Err c.in-Err-Full.field-0)) c.ref_limit.ensures c.in-Err-Full.ensures in
    finds-many resolved c.args.self.now _ sound o c.insert.new.self c.requires c.if-self.false (subst (λ why. Adding ref_limit (closed_types c.args.self.now.found.refs) (closed c.args.ty.now ∷ []) (closed_types c.insert.new.self) (Err why)) c.in-Err-Full.field-0-is full)
