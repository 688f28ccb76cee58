use Rattle.std.proofs.Common.{ℕ, max, ap, ◌∙◌, ◌∷◌, []}
use Rattle.tm_layout.specs.Reckoned.{shape}
use Rattle.tm_layout.proofs.EnumLemmas.{behind-capped}
use Rattle.tm_layout.proofs.enums.pair.Goals as goal

pub returns : goal.returns
returns c =
    behind-capped (shape c.args.first) (shape c.args.second ∷ []) c.end_at-end.result c.max-2.result c.filled.result c.end_at-end.ensures
    (c.max-2.ensures ∙ ap (λ (n : ℕ). max c.args.first.align n) c.max.ensures) c.filled.ensures
