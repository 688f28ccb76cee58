use Rattle.std.proofs.Common.{◌∙◌, ap, subst, sym, refl, length}
use Rattle.tm_base.specs.declared.ground.Ground.{out-Ground}
use Rattle.tm_base.specs.declared.ground.Ground.TheOpen.{Ground-F}
use Rattle.tm_base.specs.declared.ground.Ground.TheVariants as ground_is
use Rattle.tm_base.specs.declared.ground.Wrapper.TheVariants as wrapper
use Rattle.tm_base.specs.Expanded.{elements, nonzero, prim, ref}
use Rattle.tm_base.specs.Faults.{has_align}
use Rattle.tm_base.specs.Parts.{is_cell}
use Rattle.tm_base.specs.Tables.{expanded_in}
use Rattle.tm_layout.specs.Known.{IsFactsOf}
use Rattle.tm_layout.specs.Made.{IsKnown}
use Rattle.std.proofs.lemmas.Option.{slice_get_read}
use Rattle.tm_layout.proofs.MemberLemmas.{members-end, members-step}
use Rattle.tm_layout.proofs.TableLemmas.{facts-level, known-Tuple, known-Array, known-Wrap, wrapped-other}
use Rattle.tm_layout.proofs.written.+written.Goals as goal

pub facts_of-returns-in-Prim : goal.facts_of-returns-in-Prim
facts_of-returns-in-Prim t c = λ tables same are known.
    facts-level tables c.args.rows.now c.args.g.now (Ground-F.Prim c.in-Prim.p) c.primitive.result known (ap out-Ground c.in-Prim.is ∙ ground_is.outs-Prim c.in-Prim.p) (subst (λ profile. IsFactsOf (prim profile c.in-Prim.p) c.primitive.result) same c.primitive.ensures)

pub facts_of-returns-in-Never : goal.facts_of-returns-in-Never
facts_of-returns-in-Never t c = λ tables same are known.
    facts-level tables c.args.rows.now c.args.g.now Ground-F.Never c.empty.result known (ap out-Ground c.in-Never.is ∙ ground_is.outs-Never) c.empty.ensures.never

pub facts_of-returns-in-Unit : goal.facts_of-returns-in-Unit
facts_of-returns-in-Unit t c = λ tables same are known.
    facts-level tables c.args.rows.now c.args.g.now Ground-F.Unit c.empty-in-Unit.result known (ap out-Ground c.in-Unit.is ∙ ground_is.outs-Unit) c.empty-in-Unit.ensures.unit

pub facts_of-returns-in-Tuple : goal.facts_of-returns-in-Tuple
facts_of-returns-in-Tuple t c = λ tables same are known.
    let out = ap out-Ground (c.in-Tuple.is ∙ ap ground_is.Tuple (sym c.as_slice.ensures)) ∙ ground_is.outs-Tuple c.as_slice.result.now in
    facts-level tables c.args.rows.now c.args.g.now (Ground-F.Tuple c.as_slice.result.now) c.facts_of_tuple.result known out
    (c.facts_of_tuple.ensures tables same are (known-Tuple tables c.args.rows.now c.args.g.now c.as_slice.result.now known out))

pub facts_of-returns-in-Array : goal.facts_of-returns-in-Array
facts_of-returns-in-Array t c = λ tables same are known.
    let out = ap out-Ground (c.in-Array.is ∙ ap (λ g. ground_is.Array g c.in-Array.length) (sym c.get.ensures)) ∙ ground_is.outs-Array c.get.result.now c.in-Array.length in
    facts-level tables c.args.rows.now c.args.g.now (Ground-F.Array c.get.result.now c.in-Array.length) c.array.result known out
    (c.array.ensures (expanded_in tables c.get.result.now) (c.facts_of.ensures tables same are (known-Array tables c.args.rows.now c.args.g.now c.get.result.now c.in-Array.length known out)))

pub facts_of-returns-in-Named : goal.facts_of-returns-in-Named
facts_of-returns-in-Named t c = λ tables same are known.
    subst (λ g. IsFactsOf (expanded_in tables g) c.facts_of_named.result) (sym c.in-Named.is)
    (c.facts_of_named.ensures tables are (subst (IsKnown tables c.args.rows.now) c.in-Named.is known))

pub facts_of-returns-in-NonZero : goal.facts_of-returns-in-NonZero
facts_of-returns-in-NonZero t c = λ tables same are known.
    facts-level tables c.args.rows.now c.args.g.now (Ground-F.NonZero c.in-NonZero.p) c.nonzero.result known (ap out-Ground c.in-NonZero.is ∙ ground_is.outs-NonZero c.in-NonZero.p) (subst (λ profile. IsFactsOf (nonzero profile c.in-NonZero.p) c.nonzero.result) same c.nonzero.ensures)

pub facts_of-returns-in-PhantomData : goal.facts_of-returns-in-PhantomData
facts_of-returns-in-PhantomData t c = λ tables same are known.
    let out = ap out-Ground (c.in-Wrap.is ∙ ap (λ w. ground_is.Wrap w c.in-Wrap.argument) c.in-PhantomData.is) ∙ ground_is.outs-Wrap wrapper.PhantomData c.in-Wrap.argument in
    facts-level tables c.args.rows.now c.args.g.now (Ground-F.Wrap wrapper.PhantomData c.in-Wrap.argument) c.empty-in-PhantomData.result known out c.empty-in-PhantomData.ensures.phantom

pub facts_of-returns-in_default : goal.facts_of-returns-in_default
facts_of-returns-in_default t c = λ tables same are known.
    let out = ap out-Ground (c.in-Wrap.is ∙ ap (λ g. ground_is.Wrap c.in-Wrap.wrapper g) (sym c.get-in_default.ensures)) ∙ ground_is.outs-Wrap c.in-Wrap.wrapper c.get-in_default.result.now in
    let whole = c.facts_of-in_default.ensures tables same are (known-Wrap tables c.args.rows.now c.args.g.now c.get-in_default.result.now c.in-Wrap.wrapper c.in_default.not-PhantomData known out) in
    facts-level tables c.args.rows.now c.args.g.now (Ground-F.Wrap c.in-Wrap.wrapper c.get-in_default.result.now) c.wrapped.result known out
    (subst (λ t. IsFactsOf t c.wrapped.result) (sym (wrapped-other tables c.args.rows.now c.in-Wrap.wrapper c.get-in_default.result.now c.in_default.not-PhantomData)) (c.wrapped.ensures (expanded_in tables c.get-in_default.result.now) whole))

pub facts_of-returns-in-Ref : goal.facts_of-returns-in-Ref
facts_of-returns-in-Ref t c = λ tables same are known.
    facts-level tables c.args.rows.now c.args.g.now (Ground-F.Ref c.in-Ref.field-0) c.reference.result known (ap out-Ground c.in-Ref.is ∙ ground_is.outs-Ref c.in-Ref.field-0) (subst (λ profile. IsFactsOf (ref profile c.in-Ref.field-0) c.reference.result) same (c.reference.ensures c.in-Ref.field-0))

pub facts_of_tuple-loop-member-preserved : goal.facts_of_tuple-loop-member-preserved
facts_of_tuple-loop-member-preserved t c = λ tables same are known.
    let (before, inside) = c.loop-member.invariant tables same are known in
    let at = slice_get_read c.args.members.now (length c.args.members.now) c.loop-member.member-index c.member-item.result refl c.loop-member-test.true c.member-item.is in
    let facts = c.facts_of-facts.ensures tables same are (known c.loop-member.member-index c.member-item.result at) in (
      members-step has_align (expanded_in tables) c.args.members.now c.loop-member.member-index c.member-item.result c.loop-member.aligned c.facts_of-facts.result.aligned _ c.loop-member-test.true c.member-item.is facts.aligned before,
      members-step is_cell (expanded_in tables) c.args.members.now c.loop-member.member-index c.member-item.result c.loop-member.interior c.facts_of-facts.result.interior _ c.loop-member-test.true c.member-item.is facts.interior inside,
    )

pub facts_of_tuple-returns : goal.facts_of_tuple-returns
facts_of_tuple-returns t c = λ tables same are known.
    let (before, inside) = c.loop-member.invariant tables same are known in
    c.tuple.ensures (elements (expanded_in tables) c.args.members.now)
    (members-end has_align (expanded_in tables) c.args.members.now c.loop-member.member-index c.loop-member.aligned _ c.loop-member-test.false before)
    (members-end is_cell (expanded_in tables) c.args.members.now c.loop-member.member-index c.loop-member.interior _ c.loop-member-test.false inside)
