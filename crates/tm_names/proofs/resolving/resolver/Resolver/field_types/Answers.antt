use Rattle.std.proofs.Common.{◌∙◌, ◌+◌, [], ◌∷◌, ◌++◌, ap, arith, map}
use Rattle.tm_names.proofs.Members.{next_found}
use Rattle.tm_names.specs.declared.resolved.Open.{Open}
use Rattle.tm_names.specs.Meanings.{meaning_of}
use Rattle.tm_names.specs.Resolutions.{type_of}
use Rattle.tm_names.specs.Sights.{life_in, types_in}
use Rattle.tm_names.specs.Source.{names_in}
use Rattle.tm_parse.specs.declared.parsed.DeclField.{DeclField}
use Rattle.tm_names.proofs.resolving.resolver.Resolver.field_types.Goals as goal

pub loop-field-preserved : goal.loop-field-preserved
loop-field-preserved c =
    let file = c.args.self.now.file in
    let sight = c.args.self.now.sight in
    let resolved : DeclField → Open = λ field. type_of (meaning_of (names_in file.source) file.definitions.now.decls.now (types_in sight)) (life_in (names_in file.source) sight) field.ty in
    next_found resolved c.loop-field.types c.add.new.list (map resolved c.args.declared.now.fields) c.as_slice-field-items.result.now
    c.loop-field.field-index (c.loop-field.field-index + 1) c.field-item.result c.loop-field-test.true (omega arith) c.field-item.is
    (c.in_ok-add.ensures ∙ ap (λ ty. c.loop-field.types ++ (ty ∷ [])) {y = resolved c.field-item.result} c.in_ok-ty.ensures) c.loop-field.invariant
