use Rattle.std.proofs.Common.{◌∙◌, ◌+◌, [], ◌∷◌, ◌++◌, ap, arith, map}
use Rattle.tm_names.proofs.Members.{next_found}
use Rattle.tm_names.specs.Resolutions.{variant_types}
use Rattle.tm_names.specs.Source.{names_in}
use Rattle.tm_names.proofs.file.File.types.Goals as goal

pub loop-variant-preserved : goal.loop-variant-preserved
loop-variant-preserved c =
    let types = variant_types (names_in c.args.self.now.source) c.args.self.now.definitions.now.decls.now c.args.declared.now in
    let found = rw (c.as_slice.ensures, c.as_slice-2.ensures) at c.in_ok-fields.ensures in
    next_found types c.loop-variant.types c.add.new.list (map types c.args.declared.now.variants) c.as_slice-variant-items.result.now
    c.loop-variant.variant-index (c.loop-variant.variant-index + 1) c.variant-item.result c.loop-variant-test.true (omega arith) c.variant-item.is
    (c.in_ok-add.ensures ∙ ap (λ fields. c.loop-variant.types ++ (fields ∷ [])) found) c.loop-variant.invariant
