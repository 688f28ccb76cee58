use Rattle.std.proofs.Common.{◌≡◌, ◌∙◌, ap, refl, subst, sym, true}
use Rattle.std.proofs.lemmas.Result.{IfOk-weaker}
use Rattle.tm_base.specs.Tables.{expanded_in}
use Rattle.tm_base.specs.Whole.{are_defs_in_form, has_its_types, is_def_in_form, is_row_of}
use Rattle.tm_base.specs.Worlds.{tables_of}
use Rattle.tm_base.proofs.WorldLemmas.{list_all-at}
use Rattle.tm_layout.specs.Known.{AreVariantFacts}
use Rattle.tm_layout.specs.Made.{IsRowOf}
use Rattle.tm_layout.specs.Making.{AreFactsFor, AreKnown, EachMatches}
use Rattle.tm_base.specs.Expanded.{variants_of}
use Rattle.tm_layout.proofs.RowLemmas.{named-level, variants-facts, variants-for}
use Rattle.tm_layout.proofs.filling.row_of.Goals as goal

pub row_of_def-requires : goal.row_of_def-requires
unfolding are_defs_in_form
row_of_def-requires c = list_all-at (is_def_in_form c.args.world.now.profile) c.args.world.now.defs c.args.row.now.def.0 c.in-Some.def.now c.args.world.now.defs_in_form (sym c.in-Some.ensures.item)

pub returns : goal.returns
returns c =
    let tables = tables_of c.args.world.now in
    let def = c.in-Some.def.now in
    let row = c.args.row.now in
    let part = expanded_in tables in
    let types : has_its_types def.variants row.types ≡ true = ap (λ found. is_row_of found row) c.in-Some.ensures.item ∙ c.requires.in_form in
    IfOk-weaker c.row_of_def.result _ _ (λ made is_row id at whole.
    let facts = c.in_ok-parts.ensures tables refl c.requires.rows_are (subst (AreKnown tables c.args.rows.now) (sym c.as_slice.ensures) c.requires.known) in
    let facts_of_types = subst (λ types. EachMatches (AreFactsFor tables) types c.in_ok-parts.parts) c.as_slice.ensures facts in
    let variants = variants-facts tables def.variants row.types c.in_ok-parts.parts types facts_of_types in
    let made_of = is_row id (variants_of part def.variants row.types) (variants-for tables def.variants row.types types) (subst (AreVariantFacts (variants_of part def.variants row.types)) (sym c.as_slice-in-Some.ensures) variants) in
    subst (λ t. IsRowOf t made) (sym (named-level tables id row def whole at (sym c.in-Some.ensures.item))) made_of)
    c.row_of_def.ensures
