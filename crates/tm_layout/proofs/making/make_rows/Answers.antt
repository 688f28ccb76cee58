use Rattle.std.proofs.Common.{◌≡◌, ◌∙◌, sym, subst, ap, length, take, drop, ◌++◌, arith, below_more, false}
use Rattle.std.proofs.Math.Seq.{take-append_seam}
use Rattle.tm_base.specs.Worlds.{tables_of}
use Rattle.tm_base.specs.declared.ground.Ground.{Named}
use Rattle.tm_base.proofs.WorldLemmas.{named-in_form, passes-whole}
use Rattle.tm_layout.specs.Made.{is_missing}
use Rattle.tm_layout.specs.Making.{IsGrown}
use Rattle.tm_layout.proofs.MakingLemmas.{known-there, none-closed, none-missing}
use Rattle.tm_layout.proofs.making.make_rows.Goals as goal

pub loop-k-init : goal.loop-k-init
loop-k-init c = record {
  closed = none-closed (tables_of c.args.world.now) c.in_ok-rows.rows.items (c.in_ok-rows.ensures.count ∙ c.len.ensures) c.in_ok-rows.ensures.none;
  made = λ j below. absurd (omega arith);
}

pub make_row-requires-clause-whole : goal.make_row-requires-clause-whole
make_row-requires-clause-whole c =
    record { whole = passes-whole c.args.world.now (Named (record { 0 = c.loop-k.k })) (named-in_form c.args.world.now c.loop-k.k (omega arith)) }

pub loop-k-preserved : goal.loop-k-preserved
loop-k-preserved c =
    let tables = tables_of c.args.world.now in
    let before = c.loop-k.rows.items in
    let after = c.make_row.new.rows in
    let grown = subst (λ rows. IsGrown tables rows after) c.as_mut_slice.ensures.value c.in_ok-make_row.ensures.grown in
    let long : c.loop-k.rows.len ≡ length after = c.loop-k.rows.ok.0 ∙ c.loop-k.invariant.closed.right.count ∙ sym grown.closed.right.count in
    let whole : take c.loop-k.rows.len (after ++ drop (length after) before) ≡ after = ap (λ n. take n (after ++ drop (length after) before)) long ∙ take-append_seam after (drop (length after) before) in
    rw whole (record {
      closed = grown.closed;
      made = below_more (λ j. is_missing after j ≡ false) c.loop-k.k (λ j below. grown.grows.kept j (c.loop-k.invariant.made j below))
          (known-there tables after (record { 0 = c.loop-k.k }) c.in_ok-make_row.ensures.known);
    })

pub returns-clause-all : goal.returns-clause-all
returns-clause-all c = none-missing c.loop-k.rows.items c.loop-k.k (omega (arith, c.loop-k.invariant.closed.right.count)) c.loop-k.invariant.made
