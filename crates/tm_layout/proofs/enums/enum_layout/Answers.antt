use Rattle.tm_layout.specs.Reckoned.{variant_layouts_in}
use Rattle.tm_layout.proofs.EnumLemmas.{enum-c}
use Rattle.tm_layout.proofs.enums.enum_layout.Goals as goal

pub returns-then-repr : goal.returns-then-repr
returns-then-repr c =
    enum-c c.args.profile c.args.repr (variant_layouts_in c.args.variants.now) c.tag_layout-tag.result c.variants_behind-fields.result c.pair.result c.if-repr.true c.tag_layout-tag.ensures
    c.variants_behind-fields.ensures c.pair.ensures
