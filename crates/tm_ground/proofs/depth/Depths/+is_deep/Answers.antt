use Rattle.std.proofs.Common.{◌≡◌, ◌∙◌, ℕ, suc, sym, ap, arith, length, List, Bool, false, ◌⊎◌, ⊎_elim}
use Rattle.std.specs.List.{flat_map, list_any}
use Rattle.tm_base.specs.declared.cell.RefId.{RefId}
use Rattle.tm_base.specs.declared.ground.Ground.{Ground}
use Rattle.tm_base.specs.declared.ground.Ground as ground_is
use Rattle.tm_base.specs.declared.ground.NamedId.{NamedId}
use Rattle.tm_base.specs.declared.ground.Primitive.{Primitive}
use Rattle.tm_base.specs.declared.ground.Wrapper.{Wrapper}
use Rattle.tm_base.specs.Whole.{written_types}
use Rattle.tm_base.proofs.GroundLemmas.{written_types-Tuple, written_types-Array, written_types-Wrap}
use Rattle.tm_ground.specs.Depths.{is_deep, passes_by}
use Rattle.tm_ground.specs.Limits.{depth_limit}
use Rattle.tm_ground.proofs.sizes.TableLemmas.{count-at, deep-Array, deep-Tuple, deep-Wrap, deep-below, deep-itself, deep-leaf}
use Rattle.tm_ground.proofs.forms.TypesForm.{written-Prim, written-Never, written-Unit, written-NonZero, written-Named, written-Ref}
use Rattle.tm_ground.proofs.depth.Depths.+is_deep.Goals as goal

part-size : (h g : Ground) → ((n : ℕ) × (h ≡ ground_is.Array g n)) ⊎ ((w : Wrapper) × (h ≡ ground_is.Wrap w g)) → length (written_types h) ≡ suc (length (written_types g))
part-size h g s =
    ⊎_elim (λ p. ap (λ z. length (written_types z)) p.1 ∙ ap length (written_types-Array g p.0)) (λ p. ap (λ z. length (written_types z)) p.1 ∙ ap length (written_types-Wrap p.0 g)) s

deep-part : (tables : List (List Bool)) (h g : Ground) → ((n : ℕ) × (h ≡ ground_is.Array g n)) ⊎ ((w : Wrapper) × (h ≡ ground_is.Wrap w g)) → passes_by tables depth_limit h ≡ false → is_deep tables g ≡ is_deep tables h
deep-part tables h g s n = ⊎_elim (λ p. deep-below tables h _ _ p.1 (deep-Array tables g p.0) n) (λ p. deep-below tables h _ _ p.1 (deep-Wrap tables p.0 g) n) s

deep-scalar : (tables : List (List Bool)) (g : Ground) → ((p : Primitive) × (g ≡ ground_is.Prim p)) ⊎ ((g ≡ ground_is.Never) ⊎ (g ≡ ground_is.Unit)) → passes_by tables depth_limit g ≡ false → false ≡ is_deep tables g
deep-scalar tables g s n =
    ⊎_elim (λ p. deep-leaf tables g _ p.1 (written-Prim p.0) n) (⊎_elim (λ e. deep-leaf tables g _ e written-Never n) (λ e. deep-leaf tables g _ e written-Unit n)) s

deep-number : (tables : List (List Bool)) (g : Ground) → ((id : NamedId) × (g ≡ ground_is.Named id)) ⊎ (((p : Primitive) × (g ≡ ground_is.NonZero p)) ⊎ ((r : RefId) × (g ≡ ground_is.Ref r))) → passes_by tables depth_limit g ≡ false → false ≡ is_deep tables g
deep-number tables g s n =
    ⊎_elim (λ p. deep-leaf tables g _ p.1 (written-Named p.0) n) (⊎_elim (λ p. deep-leaf tables g _ p.1 (written-NonZero p.0) n) (λ p. deep-leaf tables g _ p.1 (written-Ref p.0) n)) s

pub are_deep-is_deep-requires : goal.are_deep-is_deep-requires
are_deep-is_deep-requires t c =
    let h = count-at c.args.types.now c.loop-ty.ty-index c.ty-item.result c.loop-ty-test.true c.ty-item.is in
    (omega (arith, h), tt)

pub is_deep-are_deep-requires : goal.is_deep-are_deep-requires
is_deep-are_deep-requires t c =
    let size : length (written_types c.args.ty.now) ≡ suc (length (flat_map written_types c.as_slice.result.now)) = rw (c.in-Tuple.is, c.as_slice.ensures) (ap length (written_types-Tuple c.in-Tuple.elements)) in
    (omega (arith, size), tt)

pub is_deep-is_deep-requires : goal.is_deep-is_deep-requires
is_deep-is_deep-requires t c =
    let size : length (written_types c.args.ty.now) ≡ suc (length (written_types c.get.result.now)) = rw c.get.ensures (part-size _ _ c.in-Array.is) in
    (omega (arith, size), tt)

pub is_deep-returns-then-passes : goal.is_deep-returns-then-passes
is_deep-returns-then-passes t c = sym (deep-itself c.args.self.now.tables c.args.ty.now (sym (rw c.depth_limit.ensures at c.passes.ensures) ∙ c.if-passes.true))

pub is_deep-returns-in-Tuple : goal.is_deep-returns-in-Tuple
is_deep-returns-in-Tuple t c =
    c.are_deep.ensures ∙ ap (list_any (is_deep c.args.self.now.tables)) c.as_slice.ensures
    ∙ deep-below c.args.self.now.tables c.args.ty.now _ _ c.in-Tuple.is (deep-Tuple c.args.self.now.tables c.in-Tuple.elements) (sym (rw c.depth_limit.ensures at c.passes.ensures) ∙ c.if-passes.false)

pub is_deep-returns-in-Array : goal.is_deep-returns-in-Array
is_deep-returns-in-Array t c =
    c.is_deep.ensures ∙ ap (is_deep c.args.self.now.tables) c.get.ensures
    ∙ deep-part _ _ _ c.in-Array.is (sym (rw c.depth_limit.ensures at c.passes.ensures) ∙ c.if-passes.false)

pub is_deep-returns-in-Prim : goal.is_deep-returns-in-Prim
is_deep-returns-in-Prim t c = deep-scalar _ _ c.in-Prim.is (sym (rw c.depth_limit.ensures at c.passes.ensures) ∙ c.if-passes.false)

pub is_deep-returns-in-Prim-2 : goal.is_deep-returns-in-Prim-2
is_deep-returns-in-Prim-2 t c = deep-scalar _ _ c.in-Prim.is (sym (rw c.depth_limit.ensures at c.passes.ensures) ∙ c.if-passes.false)

pub is_deep-returns-in-Prim-3 : goal.is_deep-returns-in-Prim-3
is_deep-returns-in-Prim-3 t c = deep-scalar _ _ c.in-Prim.is (sym (rw c.depth_limit.ensures at c.passes.ensures) ∙ c.if-passes.false)

pub is_deep-returns-in-Named : goal.is_deep-returns-in-Named
is_deep-returns-in-Named t c = deep-number _ _ c.in-Named.is (sym (rw c.depth_limit.ensures at c.passes.ensures) ∙ c.if-passes.false)

pub is_deep-returns-in-Named-2 : goal.is_deep-returns-in-Named-2
is_deep-returns-in-Named-2 t c = deep-number _ _ c.in-Named.is (sym (rw c.depth_limit.ensures at c.passes.ensures) ∙ c.if-passes.false)

pub is_deep-returns-in-Named-3 : goal.is_deep-returns-in-Named-3
is_deep-returns-in-Named-3 t c = deep-number _ _ c.in-Named.is (sym (rw c.depth_limit.ensures at c.passes.ensures) ∙ c.if-passes.false)
