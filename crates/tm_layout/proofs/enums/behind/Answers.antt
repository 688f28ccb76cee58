use Rattle.std.proofs.Common.{ℕ, max, ap, ◌∙◌}
use Rattle.tm_layout.specs.Reckoned.{layouts_in, shape}
use Rattle.tm_layout.proofs.EnumLemmas.{behind-capped}
use Rattle.tm_layout.proofs.enums.behind.Goals as goal

pub returns : goal.returns
returns c =
    behind-capped (shape c.args.front) (layouts_in c.args.fields.now) c.end_of-end.result c.max.result c.filled.result c.end_of-end.ensures
    (c.max.ensures ∙ ap (λ (n : ℕ). max c.args.front.align n) c.greatest_align.ensures) c.filled.ensures
