use Rattle.std.proofs.Common.{rules, ◌+◌, ◌<◌, ◌∙◌, ap, arith, length, refl, subst, sym}
use Rattle.std.proofs.lemmas.Option.{slice_get_read}
use Rattle.std.proofs.lemmas.Result.{on_ok_weaker}
use Rattle.tm_base.specs.declared.ground.Ground.{out-Ground, Named}
use Rattle.tm_base.specs.declared.ground.Ground.TheOpen.{Ground-F}
use Rattle.tm_base.specs.declared.ground.Ground.TheVariants as ground_is
use Rattle.tm_base.specs.declared.ground.Wrapper.TheVariants as wrapper
use Rattle.tm_base.specs.Parts.{some_part}
use Rattle.tm_base.specs.Worlds.{tables_of}
use Rattle.tm_layout.specs.Made.{EachIs, IsKnown}
use Rattle.tm_layout.specs.Making.{AreKnown, IsGrown, IsWrittenOut}
use Rattle.tm_layout.proofs.MakingLemmas.{grown-more, known-from, known-grown, known-of-Array, known-of-Tuple, known-of-Wrap, nodes-Array, nodes-row, nodes-Tuple, nodes-Wrap, put-below, put-grown, put-known, row-in_form, row-whole, some-copied, whole-Array, whole-there, whole-Tuple, whole-Wrap}
use Rattle.tm_layout.proofs.NodeLemmas.{all_nodes, nodes_at, nodes_in, row_nodes, row_nodes_at}
use Rattle.tm_layout.proofs.FirstLemmas.{first-all, first-kept, first-more}
use Rattle.tm_layout.proofs.making.+making.Goals as goal

pub make_row-returns-then-is_some-clause-known : goal.make_row-returns-then-is_some-clause-known
make_row-returns-then-is_some-clause-known t c =
    let (row, there) = some-copied c.row_at.result (sym c.is_some.ensures ∙ c.if-is_some.true) in
    c.requires.closed.closed c.args.id.0 row (sym c.row_at.ensures ∙ there)

pub make_row-unreachable-requires : goal.make_row-unreachable-requires
make_row-unreachable-requires t c = whole-there (tables_of c.args.world.now) c.args.id c.requires.whole (sym c.in_default.ensures.item)

pub make_row-make_variants-requires : goal.make_row-make_variants-requires
make_row-make_variants-requires t c =
    let tables = tables_of c.args.world.now in
    let at = sym c.in-Some.ensures.item in
    let nodes = nodes-row tables c.args.id c.in-Some.row.now c.requires.whole at (row-in_form c.args.world.now c.args.id.0 c.in-Some.row.now at) in
    let smaller : 3 + row_nodes tables c.as_slice.result.now < nodes_in tables (Named c.args.id) = rw (c.as_slice.ensures, nodes) (omega arith) in
    let whole = subst (EachIs (EachIs (IsWrittenOut tables))) (sym c.as_slice.ensures) (row-whole c.args.world.now c.args.id.0 c.in-Some.row.now at) in
    search rules

pub make_row-row_of-requires : goal.make_row-row_of-requires
make_row-row_of-requires t c = record {
  in_form = row-in_form c.args.world.now c.args.id.0 c.in-Some.row.now (sym c.in-Some.ensures.item);
  rows_are = c.in_ok-make_variants.ensures.grown.closed.right;
  known = subst (AreKnown (tables_of c.args.world.now) c.make_variants.new.rows) c.as_slice.ensures c.in_ok-make_variants.ensures.known;
}

pub make_row-returns-clause-grown : goal.make_row-returns-clause-grown
make_row-returns-clause-grown t c =
    let tables = tables_of c.args.world.now in
    let rows = c.make_variants.new.rows in
    let row = c.in-Some.row.now in
    let first = c.in_ok-make_variants.ensures.grown in
    let at = sym c.in-Some.ensures.item in
    let below : c.args.id.0 < length rows = put-below tables rows c.args.id row first.closed at in
    let known = subst (AreKnown tables rows) c.as_slice.ensures c.in_ok-make_variants.ensures.known in
    let right = c.in_ok-made.ensures c.args.id at c.requires.whole in
    subst (IsGrown tables c.args.rows.now) (sym c.put.ensures)
    (grown-more tables c.args.rows.now rows _ first (put-grown tables rows c.args.id row c.in_ok-made.made below first.closed c.requires.whole at (row-in_form c.args.world.now c.args.id.0 row at) known right))

pub make_row-returns-clause-known : goal.make_row-returns-clause-known
make_row-returns-clause-known t c =
    let tables = tables_of c.args.world.now in
    let rows = c.make_variants.new.rows in
    let row = c.in-Some.row.now in
    let first = c.in_ok-make_variants.ensures.grown in
    let at = sym c.in-Some.ensures.item in
    let below : c.args.id.0 < length rows = put-below tables rows c.args.id row first.closed at in
    let known = subst (AreKnown tables rows) c.as_slice.ensures c.in_ok-make_variants.ensures.known in
    let right = c.in_ok-made.ensures c.args.id at c.requires.whole in
    subst (λ rows. IsKnown tables rows (Named c.args.id)) (sym c.put.ensures)
    (put-known tables rows c.args.id row c.in_ok-made.made below first.closed c.requires.whole at (row-in_form c.args.world.now c.args.id.0 row at) known right)

pub make_type-make_types-requires : goal.make_type-make_types-requires
make_type-make_types-requires t c =
    let tables = tables_of c.args.world.now in
    let out = ap out-Ground (c.in-Tuple.is ∙ ap ground_is.Tuple (sym c.as_slice.ensures)) ∙ ground_is.outs-Tuple c.as_slice.result.now in
    let nodes = nodes-Tuple tables c.args.g.now c.as_slice.result.now c.requires.whole out in
    let smaller : 2 + all_nodes tables c.as_slice.result.now < 1 + nodes_in tables c.args.g.now = rw nodes (omega arith) in
    let whole = whole-Tuple tables c.args.g.now c.as_slice.result.now c.requires.whole out in
    search rules

pub make_type-make_type-requires : goal.make_type-make_type-requires
make_type-make_type-requires t c =
    let tables = tables_of c.args.world.now in
    let out = ap out-Ground (c.in-Array.is ∙ ap (λ g. ground_is.Array g c.in-Array.field-1) (sym c.get.ensures)) ∙ ground_is.outs-Array c.get.result.now c.in-Array.field-1 in
    let nodes = nodes-Array tables c.args.g.now c.get.result.now c.in-Array.field-1 c.requires.whole out in
    let smaller : 1 + nodes_in tables c.get.result.now < 1 + nodes_in tables c.args.g.now = rw nodes (omega arith) in
    let whole = whole-Array tables c.args.g.now c.get.result.now c.in-Array.field-1 c.requires.whole out in
    search rules

pub make_type-make_type-requires-in_default : goal.make_type-make_type-requires-in_default
make_type-make_type-requires-in_default t c =
    let tables = tables_of c.args.world.now in
    let out = ap out-Ground (c.in-Wrap.is ∙ ap (λ g. ground_is.Wrap c.in-Wrap.wrapper g) (sym c.get-in_default.ensures)) ∙ ground_is.outs-Wrap c.in-Wrap.wrapper c.get-in_default.result.now in
    let nodes = nodes-Wrap tables c.args.g.now c.get-in_default.result.now c.in-Wrap.wrapper c.in_default.not-PhantomData c.requires.whole out in
    let smaller : 1 + nodes_in tables c.get-in_default.result.now < 1 + nodes_in tables c.args.g.now = rw nodes (omega arith) in
    let whole = whole-Wrap tables c.args.g.now c.get-in_default.result.now c.in-Wrap.wrapper c.in_default.not-PhantomData c.requires.whole out in
    search rules

pub make_type-returns-in-Prim-clause-known : goal.make_type-returns-in-Prim-clause-known
unfolding some_part
make_type-returns-in-Prim-clause-known t c =
    known-from (tables_of c.args.world.now) c.args.rows.now c.args.g.now (Ground-F.Prim c.in-Prim.field-0) c.requires.whole (ap out-Ground c.in-Prim.is ∙ ground_is.outs-Prim c.in-Prim.field-0) refl

pub make_type-returns-in-Never-clause-known : goal.make_type-returns-in-Never-clause-known
unfolding some_part
make_type-returns-in-Never-clause-known t c =
    known-from (tables_of c.args.world.now) c.args.rows.now c.args.g.now Ground-F.Never c.requires.whole (ap out-Ground c.in-Never.is ∙ ground_is.outs-Never) refl

pub make_type-returns-in-Unit-clause-known : goal.make_type-returns-in-Unit-clause-known
unfolding some_part
make_type-returns-in-Unit-clause-known t c =
    known-from (tables_of c.args.world.now) c.args.rows.now c.args.g.now Ground-F.Unit c.requires.whole (ap out-Ground c.in-Unit.is ∙ ground_is.outs-Unit) refl

pub make_type-returns-in-Tuple-clause-known : goal.make_type-returns-in-Tuple-clause-known
make_type-returns-in-Tuple-clause-known t c =
    let out = ap out-Ground (c.in-Tuple.is ∙ ap ground_is.Tuple (sym c.as_slice.ensures)) ∙ ground_is.outs-Tuple c.as_slice.result.now in
    on_ok_weaker c.make_types.result (known-of-Tuple (tables_of c.args.world.now) c.make_types.new.rows c.args.g.now c.as_slice.result.now c.requires.whole out) c.make_types.ensures.known

pub make_type-returns-in-Array-clause-known : goal.make_type-returns-in-Array-clause-known
make_type-returns-in-Array-clause-known t c =
    let out = ap out-Ground (c.in-Array.is ∙ ap (λ g. ground_is.Array g c.in-Array.field-1) (sym c.get.ensures)) ∙ ground_is.outs-Array c.get.result.now c.in-Array.field-1 in
    on_ok_weaker c.make_type.result (known-of-Array (tables_of c.args.world.now) c.make_type.new.rows c.args.g.now c.get.result.now c.in-Array.field-1 c.requires.whole out) c.make_type.ensures.known

pub make_type-returns-in-NonZero-clause-known : goal.make_type-returns-in-NonZero-clause-known
unfolding some_part
make_type-returns-in-NonZero-clause-known t c =
    known-from (tables_of c.args.world.now) c.args.rows.now c.args.g.now (Ground-F.NonZero c.in-NonZero.field-0) c.requires.whole (ap out-Ground c.in-NonZero.is ∙ ground_is.outs-NonZero c.in-NonZero.field-0) refl

pub make_type-returns-in-PhantomData-clause-known : goal.make_type-returns-in-PhantomData-clause-known
unfolding some_part
make_type-returns-in-PhantomData-clause-known t c =
    let out = ap out-Ground (c.in-Wrap.is ∙ ap (λ w. ground_is.Wrap w c.in-Wrap.argument) c.in-PhantomData.is) ∙ ground_is.outs-Wrap wrapper.PhantomData c.in-Wrap.argument in
    known-from (tables_of c.args.world.now) c.args.rows.now c.args.g.now (Ground-F.Wrap wrapper.PhantomData c.in-Wrap.argument) c.requires.whole out refl

pub make_type-returns-in_default : goal.make_type-returns-in_default
make_type-returns-in_default t c =
    let out = ap out-Ground (c.in-Wrap.is ∙ ap (λ g. ground_is.Wrap c.in-Wrap.wrapper g) (sym c.get-in_default.ensures)) ∙ ground_is.outs-Wrap c.in-Wrap.wrapper c.get-in_default.result.now in
    record {
      grown = c.make_type-in_default.ensures.grown;
      known = on_ok_weaker c.make_type-in_default.result
          (known-of-Wrap (tables_of c.args.world.now) c.make_type-in_default.new.rows c.args.g.now c.get-in_default.result.now c.in-Wrap.wrapper c.in_default.not-PhantomData c.requires.whole out)
          c.make_type-in_default.ensures.known;
    }

pub make_type-returns-in-Ref-clause-known : goal.make_type-returns-in-Ref-clause-known
unfolding some_part
make_type-returns-in-Ref-clause-known t c =
    known-from (tables_of c.args.world.now) c.args.rows.now c.args.g.now (Ground-F.Ref c.in-Ref.field-0) c.requires.whole (ap out-Ground c.in-Ref.is ∙ ground_is.outs-Ref c.in-Ref.field-0) refl

pub make_types-make_type-requires : goal.make_types-make_type-requires
make_types-make_type-requires t c =
    let tables = tables_of c.args.world.now in
    let at = slice_get_read c.args.types.now (length c.args.types.now) c.loop-g.g-index c.g-item.result refl c.loop-g-test.true c.g-item.is in
    let whole = c.requires.whole c.loop-g.g-index c.g-item.result at in
    let below = nodes_at tables c.args.types.now c.loop-g.g-index c.g-item.result c.loop-g-test.true in
    let smaller : 1 + nodes_in tables c.g-item.result < 2 + all_nodes tables c.args.types.now = rw c.g-item.is (omega arith) in
    let closed = c.loop-g.invariant.grown.closed in
    search rules

pub make_types-loop-g-preserved : goal.make_types-loop-g-preserved
make_types-loop-g-preserved t c =
    let tables = tables_of c.args.world.now in
    let at = slice_get_read c.args.types.now (length c.args.types.now) c.loop-g.g-index c.g-item.result refl c.loop-g-test.true c.g-item.is in
    let grown = c.in_ok-make_type.ensures.grown in
    record {
      grown = grown-more tables c.args.rows.now c.loop-g.rows c.make_type.new.rows c.loop-g.invariant.grown grown;
      known = first-more (IsKnown tables c.make_type.new.rows) c.args.types.now c.loop-g.g-index c.g-item.result at
          (first-kept (IsKnown tables c.loop-g.rows) (IsKnown tables c.make_type.new.rows) c.args.types.now c.loop-g.g-index (known-grown tables c.loop-g.rows c.make_type.new.rows grown.grows) c.loop-g.invariant.known)
          c.in_ok-make_type.ensures.known;
    }

pub make_types-returns-clause-known : goal.make_types-returns-clause-known
make_types-returns-clause-known t c = first-all (IsKnown (tables_of c.args.world.now) c.loop-g.rows) c.args.types.now c.loop-g.g-index c.loop-g-test.false c.loop-g.invariant.known

pub make_variants-make_types-requires : goal.make_variants-make_types-requires
make_variants-make_types-requires t c =
    let tables = tables_of c.args.world.now in
    let at = slice_get_read c.args.variants.now (length c.args.variants.now) c.loop-types.types-index c.types-item.result refl c.loop-types-test.true c.types-item.is in
    let whole = subst (EachIs (IsWrittenOut tables)) (sym c.as_slice.ensures) (c.requires.whole c.loop-types.types-index c.types-item.result at) in
    let below = row_nodes_at tables c.args.variants.now c.loop-types.types-index c.types-item.result c.loop-types-test.true in
    let smaller : 2 + all_nodes tables c.as_slice.result.now < 3 + row_nodes tables c.args.variants.now = rw (c.as_slice.ensures, c.types-item.is) (omega arith) in
    let closed = c.loop-types.invariant.grown.closed in
    search rules

pub make_variants-loop-types-preserved : goal.make_variants-loop-types-preserved
make_variants-loop-types-preserved t c =
    let tables = tables_of c.args.world.now in
    let at = slice_get_read c.args.variants.now (length c.args.variants.now) c.loop-types.types-index c.types-item.result refl c.loop-types-test.true c.types-item.is in
    let grown = c.in_ok-make_types.ensures.grown in
    record {
      grown = grown-more tables c.args.rows.now c.loop-types.rows c.make_types.new.rows c.loop-types.invariant.grown grown;
      known = first-more (EachIs (IsKnown tables c.make_types.new.rows)) c.args.variants.now c.loop-types.types-index c.types-item.result at
          (first-kept (EachIs (IsKnown tables c.loop-types.rows)) (EachIs (IsKnown tables c.make_types.new.rows)) c.args.variants.now c.loop-types.types-index
          (λ types known k g at_k. known-grown tables c.loop-types.rows c.make_types.new.rows grown.grows g (known k g at_k)) c.loop-types.invariant.known)
          (subst (EachIs (IsKnown tables c.make_types.new.rows)) c.as_slice.ensures c.in_ok-make_types.ensures.known);
    }

pub make_variants-returns-clause-known : goal.make_variants-returns-clause-known
make_variants-returns-clause-known t c =
    first-all (EachIs (IsKnown (tables_of c.args.world.now) c.loop-types.rows)) c.args.variants.now c.loop-types.types-index c.loop-types-test.false c.loop-types.invariant.known
