use Rattle.tm_layout.specs.Reckoned.{variant_layouts_in}
use Rattle.tm_layout.proofs.EnumLemmas.{begin-c}
use Rattle.tm_layout.proofs.enums.fields_begin.Goals as goal

pub returns-then-repr : goal.returns-then-repr
returns-then-repr c =
    begin-c c.args.profile c.args.kind c.args.repr (variant_layouts_in c.args.variants.now) c.tag_layout-tag.result c.variants_behind-fields.result c.round_up.result
    c.in-Enum.is c.if-repr.true c.tag_layout-tag.ensures c.variants_behind-fields.ensures c.round_up.ensures
