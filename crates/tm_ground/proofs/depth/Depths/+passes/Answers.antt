use Rattle.std.proofs.Common.{◌-◌, ◌∙◌, ◌&&◌, sym, ap}
use Rattle.std.specs.List.{list_any}
use Rattle.tm_base.specs.declared.ground.Ground.{out-Ground}
use Rattle.tm_base.specs.declared.ground.Ground.TheVariants as level
use Rattle.tm_ground.specs.Depths.{passes_by}
use Rattle.tm_ground.proofs.sizes.TableLemmas.{passes-leaf, passes-next, passes-none, passes-scalar}
use Rattle.tm_ground.proofs.depth.Depths.+passes.Goals as goal

pub passes-returns-then-number-eq0 : goal.passes-returns-then-number-eq0
passes-returns-then-number-eq0 t c = sym (passes-none c.args.self.now.tables c.args.number c.args.ty.now c.if-number-eq0.true)

pub passes-returns-in-Tuple : goal.passes-returns-in-Tuple
passes-returns-in-Tuple t c =
    c.some_passes.ensures ∙ ap (list_any (passes_by c.args.self.now.tables (c.args.number - 1))) c.as_slice.ensures
    ∙ passes-next c.args.self.now.tables _ c.args.ty.now _ c.if-number-eq0.false (ap out-Ground c.in-Tuple.is ∙ level.outs-Tuple c.in-Tuple.elements)

pub passes-returns-in-Array : goal.passes-returns-in-Array
passes-returns-in-Array t c =
    c.passes.ensures ∙ ap (passes_by c.args.self.now.tables (c.args.number - 1)) c.get.ensures
    ∙ passes-next c.args.self.now.tables _ c.args.ty.now _ c.if-number-eq0.false (ap out-Ground c.in-Array.is ∙ level.outs-Array c.in-Array.element c.in-Array.field-1)

pub passes-returns-then-is_holding : goal.passes-returns-then-is_holding
passes-returns-then-is_holding t c =
    c.passes-then-is_holding.ensures ∙ ap (passes_by c.args.self.now.tables (c.args.number - 1)) c.get-then-is_holding.ensures
    ∙ ap (λ b. b && passes_by c.args.self.now.tables (c.args.number - 1) c.in-Wrap.argument) (sym c.if-is_holding.true ∙ c.is_holding.ensures)
    ∙ passes-next c.args.self.now.tables _ c.args.ty.now _ c.if-number-eq0.false (ap out-Ground c.in-Wrap.is ∙ level.outs-Wrap c.in-Wrap.wrapper c.in-Wrap.argument)

pub passes-returns-else-is_holding : goal.passes-returns-else-is_holding
passes-returns-else-is_holding t c =
    c.if-is_holding.false ∙ ap (λ b. b && passes_by c.args.self.now.tables (c.args.number - 1) c.in-Wrap.argument) (sym c.if-is_holding.false ∙ c.is_holding.ensures)
    ∙ passes-next c.args.self.now.tables _ c.args.ty.now _ c.if-number-eq0.false (ap out-Ground c.in-Wrap.is ∙ level.outs-Wrap c.in-Wrap.wrapper c.in-Wrap.argument)

pub passes-returns-in-Named : goal.passes-returns-in-Named
passes-returns-in-Named t c =
    c.flag.ensures ∙ passes-next c.args.self.now.tables _ c.args.ty.now _ c.if-number-eq0.false (ap out-Ground c.in-Named.is ∙ level.outs-Named c.in-Named.id)

pub passes-returns-in-Prim : goal.passes-returns-in-Prim
passes-returns-in-Prim t c = passes-scalar c.args.self.now.tables _ _ c.if-number-eq0.false c.in-Prim.is

pub passes-returns-in-Prim-2 : goal.passes-returns-in-Prim-2
passes-returns-in-Prim-2 t c = passes-scalar c.args.self.now.tables _ _ c.if-number-eq0.false c.in-Prim.is

pub passes-returns-in-Prim-3 : goal.passes-returns-in-Prim-3
passes-returns-in-Prim-3 t c = passes-scalar c.args.self.now.tables _ _ c.if-number-eq0.false c.in-Prim.is

pub passes-returns-in-NonZero : goal.passes-returns-in-NonZero
passes-returns-in-NonZero t c = passes-leaf c.args.self.now.tables _ _ c.if-number-eq0.false c.in-NonZero.is

pub passes-returns-in-NonZero-2 : goal.passes-returns-in-NonZero-2
passes-returns-in-NonZero-2 t c = passes-leaf c.args.self.now.tables _ _ c.if-number-eq0.false c.in-NonZero.is
