use Rattle.std.proofs.Common.{◌∙◌, ap, ◌++◌, replicate}
use Rattle.std.proofs.lemmas.List.{take_rest}
use Rattle.tm_base.specs.declared.cell.Cell.TheVariants.{Uninit}
use Rattle.tm_check.proofs.RunLemmas.{back-told}
use Rattle.tm_check.proofs.run.Run.behind.Goals as goal

pub returns : goal.returns
returns c =
    ap (λ w. w ++ replicate c.saturating_sub.result Uninit) (take_rest c.args.self.told.now c.min-end.result)
    ∙ back-told c.args.count c.args.self.uninit c.min-end.result c.saturating_sub.result c.args.self.told.now c.min-end.ensures c.saturating_sub.ensures
