use Rattle.std.proofs.Common.{◌≡◌, ◌∙◌, ap, sym, List, Option, None, Some, slice_get}
use Rattle.std.specs.Option.{option_and_then}
use Rattle.tm_base.specs.declared.ground.Ground.{Named}
use Rattle.tm_base.specs.Places.{place_of}
use Rattle.tm_base.specs.Tables.{expanded_in}
use Rattle.tm_layout.specs.declared.row.RowFacts.{RowFacts}
use Rattle.tm_layout.specs.Made.{row_at}
use Rattle.tm_layout.proofs.RefusalLemmas.{layout-unrefused}
use Rattle.tm_layout.proofs.TableLemmas.{nowhere}
use Rattle.tm_layout.proofs.layouts.Layouts.place.Goals as goal

pub returns-in-Some : goal.returns-in-Some
returns-in-Some c = record {
  place = λ tables made at laid_out here.
      let row = c.in-Some.row.now in
      let found : row_at c.args.self.now.rows.items c.args.id.0 ≡ Some row = ap (λ (rows : List (Option RowFacts)). row_at rows c.args.id.0) (sym c.as_slice.ensures.value) ∙ sym c.in-Some.ensures in
      let places = (made.rows.right c.args.id.0 row found).places (layout-unrefused (expanded_in tables (Named c.args.id)) laid_out) in
      c.place.ensures at (ap (λ places. option_and_then (λ fields. slice_get fields c.args.field) (slice_get places c.args.variant)) places ∙ here);
}

pub returns-in-None : goal.returns-in-None
returns-in-None c = record {
  place = λ tables made at laid_out here.
      let rows = made.rows in
      let none : row_at c.args.self.now.rows.items c.args.id.0 ≡ None = ap (λ (rows : List (Option RowFacts)). row_at rows c.args.id.0) (sym c.as_slice.ensures.value) ∙ sym c.in-None.ensures in
      let gone = ap (λ t. place_of t c.args.variant c.args.field) (nowhere tables c.args.self.now.rows.items c.args.id made.all rows none) in
      cc;
}
