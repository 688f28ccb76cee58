use Rattle.std.proofs.Common.{◌∙◌, arith}
use Rattle.std.proofs.lemmas.Slice.Zip.{AllZip-long}
use Rattle.tm_ground.proofs.forms.RowForm.{regions-in_form, rows-in_form}
use Rattle.tm_ground.proofs.world.RowsApart.{rows-distinct, ref-rows-distinct}
use Rattle.tm_ground.proofs.forms.TypesForm.{types-in_form}
use Rattle.tm_ground.proofs.worlds.make_world.Goals as goal

pub invariant_of-result : goal.invariant_of-result
invariant_of-result c =
    let file = c.args.resolved.now in
    let form = c.requires.form in
    let all = c.requires.whole in
    let made = c.args.rows in
    let rows = all.rows in
    let defs = c.in_ok-defs.ensures ∙ c.as_slice.ensures in
    let regions = c.in_ok-regions.ensures ∙ c.as_slice-2.ensures in
    let bounds = c.in_ok-bounds.ensures ∙ c.as_slice-3.ensures in
    record {
      few_defs = rw defs form.few_defs;
      few_regions = rw regions form.few_regions;
      few_named = omega (arith, AllZip-long _ all.types made.named rows.named, all.whole.rows.few);
      few_refs = omega (arith, AllZip-long _ all.refs made.refs rows.ref_rows, all.whole.refs.few);
      few_questions = omega (arith, AllZip-long _ file.asks made.questions rows.questions, form.few_asks);
      regions_known = rw (regions, bounds) (regions-in_form file form all.types all.refs all.whole made.named made.refs rows.named rows.ref_rows);
      defs_in_form = rw defs form.defs_in_form;
      values_distinct = rw defs form.values_distinct;
      rows_in_form = rw defs (rows-in_form file form all.types all.refs all.whole made.named made.refs rows.named rows.ref_rows);
      types_in_form = rw defs (types-in_form file form all.types all.refs all.whole c.requires.shallow made.named made.refs made.questions rows.named rows.ref_rows rows.questions);
      named_distinct = rows-distinct file all.types all.refs all.whole made.named made.refs rows.named rows.ref_rows;
      refs_distinct = ref-rows-distinct file all.types all.refs all.whole made.named made.refs rows.named rows.ref_rows;
    }
