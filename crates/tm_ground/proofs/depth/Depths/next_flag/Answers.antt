use Rattle.std.proofs.Common.{◌∙◌, ◌&&◌, sym, ap, arith}
use Rattle.std.proofs.lemmas.Bool.{eqb-false}
use Rattle.tm_ground.specs.Depths.{row_passes}
use Rattle.tm_ground.proofs.sizes.DepthLemmas.{next-at, next-first}
use Rattle.tm_ground.proofs.depth.Depths.next_flag.Goals.{then-number-eq0, else-number-eq0}
use Rattle.tm_ground.proofs.depth.Depths.next_flag.Goals as goal

pub returns-then-flag : goal.returns-then-flag
returns-then-flag c =
    elim c.if-number-eq0.branch [
      | then-number-eq0 w ↦ c.some_field_passes.ensures ∙ next-first _ _ c.args.place _ w.if-number-eq0.true
      | else-number-eq0 w ↦
          c.some_field_passes.ensures ∙ ap (λ b. b && row_passes c.args.self.now.tables c.args.number c.args.row.now) (sym c.if-flag.true ∙ w.value-is ∙ w.flag.ensures)
          ∙ next-at _ _ c.args.place _ w.if-number-eq0.false
    ]

pub returns-else-flag : goal.returns-else-flag
returns-else-flag c =
    elim c.if-number-eq0.branch [
      | then-number-eq0 w ↦ (let no : ⊥ = omega (arith, w.if-number-eq0.true, eqb-false _ _ (sym w.value-is ∙ c.if-flag.false)) in absurd no)
      | else-number-eq0 w ↦
          c.if-flag.false ∙ ap (λ b. b && row_passes c.args.self.now.tables c.args.number c.args.row.now) (sym c.if-flag.false ∙ w.value-is ∙ w.flag.ensures)
          ∙ next-at _ _ c.args.place _ w.if-number-eq0.false
    ]
