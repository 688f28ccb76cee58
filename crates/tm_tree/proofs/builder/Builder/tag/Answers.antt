use Rattle.std.proofs.Common.{◌∙◌, ap}
use Rattle.std.specs.Int.{w128}
use Rattle.std.proofs.lemmas.Int.{to_z-of_z}
use Rattle.tm_base.specs.Layout.{prim_size}
use Rattle.tm_base.specs.Worlds.{tables_of}
use Rattle.tm_niche.specs.Forms.{tag_form}
use Rattle.tm_tree.proofs.EnumLemmas.{tag-row}
use Rattle.tm_layout.proofs.LaidOutLemmas.{prim-laid_out, prim-sized}
use Rattle.tm_tree.proofs.builder.Builder.tag.Goals as goal

pub size-requires : goal.size-requires
size-requires c = prim-laid_out (tables_of c.args.self.now.world.now) c.unwrap_or-p.result

pub returns : goal.returns
returns c =
    let tables = tables_of c.args.self.now.world.now in
    let profile = tables.profile in
    let read = to_z-of_z w128 c.args.value c.ranges.value in
    tag-row profile c.args.tag c.args.value c.unwrap_or-p.result c.in_ok-tree.tree c.in_ok-one.field-0 c.size.result c.unwrap_or-p.ensures
    (c.in_ok-tree.ensures.form ∙ ap (tag_form profile (prim_size profile c.unwrap_or-p.result)) read) c.in_ok-one.ensures
    (c.size.ensures ∙ prim-sized tables c.unwrap_or-p.result)
