use Rattle.std.proofs.Common.{◌∷◌, [], sym, ap, ◌∙◌}
use Rattle.tm_ground.specs.Occurs.{is_small}
use Rattle.tm_ground.proofs.finding.FindingLemmas.{collecting-big}
use Rattle.tm_ground.proofs.finding.SeeingLemmas.{collecting-same}
use Rattle.tm_ground.proofs.collector.Collector.add.Goals as goal

pub returns-then-not-is_small : goal.returns-then-not-is_small
returns-then-not-is_small c = collecting-big _ c.args.self.now (sym (c.is_small.ensures c.args.regions.now) ∙ c.if-not-is_small.true)

pub add_written-requires : goal.add_written-requires
add_written-requires c = ap is_small c.in-Ok.ensures ∙ sym (c.is_small.ensures c.args.regions.now) ∙ c.if-not-is_small.false

pub returns : goal.returns
returns c = collecting-same _ _ _ _ c.add_written.result (ap (λ x. x ∷ []) c.in-Ok.ensures) c.add_written.ensures
