-- What is known of a type, from what is known of its parts.
use Rattle.std.proofs.Common.{◌≡◌, ℕ, ◌+◌, ◌*◌, ◌≤◌, max, nat_lt, refl, sym, ap, ◌∙◌, subst, Bool, true, false, ◌||◌, ◌&&◌, not, Option, Some, None, if◌then◌else◌, arith}
use Rattle.std.proofs.Math.Nat.{mul-le-mul_left}
use Rattle.std.proofs.lemmas.Bool.Decides.{nat_tests}
use Rattle.std.specs.Option.{is_some, option_or}
use Rattle.tm_base.specs.declared.answer.Why.{Why}
use Rattle.tm_base.specs.declared.answer.Why.TheVariants.{OptionNotListed, TooLarge, Tuple, TransparentFields, PackedHoldsAlign}
use Rattle.tm_base.specs.declared.cell.RefId.{RefId}
use Rattle.tm_base.specs.declared.ground.Primitive.{Primitive}
use Rattle.tm_base.specs.declared.ground.Primitive.TheVariants as P
use Rattle.tm_base.specs.declared.ground.Wrapper.{Wrapper}
use Rattle.tm_base.specs.declared.profile.Profile.{Profile}
use Rattle.tm_base.specs.declared.profile.Profile.TheVariants as profile_is
use Rattle.tm_base.specs.Expanded.{Expanded, Fields, prim, never, unit, tuple, array, nonzero, phantom, wrap, ref}
use Rattle.tm_base.specs.Faults.{fault_of, has_cause, is_nullable, own_fault, layout_fault, or_else, when, has_align, has_two_sized, is_packed}
use Rattle.tm_base.specs.Layout.{layout_of, prim_size, size_of}
use Rattle.tm_base.specs.Parts.{some_part, some_field, some_within, has_interior, is_option, is_cell, is_cell_wrapper}
use Rattle.tm_base.specs.Profiles.{pointer_size}
use Rattle.tm_base.specs.Weight.{weight_of, weight_limit, wrapper_weight}
use Rattle.tm_layout.specs.declared.facts.Facts.{Facts}
use Rattle.tm_layout.specs.Capped.{capped, first_fault, weight_fault}
use Rattle.tm_layout.specs.Known.{IsFactsOf, HasLayout}
use Rattle.tm_layout.specs.Refusals.{refusal_of}
use Rattle.tm_layout.proofs.RefusalLemmas.{option_or-or_else, none-first, none-second, refused-exactly}

-- ---- types without parts

abbrev pub whole_facts : Bool → ℕ → ℕ → ℕ → Facts
whole_facts nullable size align weight =
    record { fault = None; refusal = None; nullable = nullable; aligned = false; interior = false; size = size; align = align; weight = weight }

pub pointer_size-small : (profile : Profile) → pointer_size profile ≤ 16
pointer_size-small profile_is.Le64 = omega arith
pointer_size-small profile_is.Be64 = omega arith
pointer_size-small profile_is.Le32 = omega arith

pub prim_size-small : (profile : Profile) (p : Primitive) → prim_size profile p ≤ 16
prim_size-small profile P.Bool = omega arith
prim_size-small profile P.Char = omega arith
prim_size-small profile P.U8 = omega arith
prim_size-small profile P.U16 = omega arith
prim_size-small profile P.U32 = omega arith
prim_size-small profile P.U64 = omega arith
prim_size-small profile P.U128 = omega arith
prim_size-small profile P.Usize = pointer_size-small profile
prim_size-small profile P.I8 = omega arith
prim_size-small profile P.I16 = omega arith
prim_size-small profile P.I32 = omega arith
prim_size-small profile P.I64 = omega arith
prim_size-small profile P.I128 = omega arith
prim_size-small profile P.Isize = pointer_size-small profile
prim_size-small profile P.F32 = omega arith
prim_size-small profile P.F64 = omega arith

not_too_large : (w : ℕ) → w ≤ weight_limit → None ≡ weight_fault w
not_too_large w h = ap (λ b. when b TooLarge) (sym (past w h)) where
  past : (w : ℕ) → w ≤ weight_limit → nat_lt weight_limit w ≡ false
  past w h = grind (arith, nat_tests)

pub primitive-facts : (profile : Profile) (p : Primitive) (n : ℕ) → n ≡ prim_size profile p → IsFactsOf (prim profile p) (whole_facts false n n n)
unfolding fault_of some_part refusal_of is_nullable layout_of weight_of
primitive-facts profile p n e =
    let small : prim_size profile p ≤ 16 = prim_size-small profile p in
    let none : None ≡ weight_fault (prim_size profile p) = not_too_large (prim_size profile p) (omega arith) in record {
      fault = none;
      refusal = none;
      nullable = refl;
      aligned = refl;
      interior = refl;
      layout = λ h. record { size = e; align = e; weight = e; light = omega arith; heavier = omega arith; aligned = omega arith };
    }

pub nonzero-facts : (profile : Profile) (p : Primitive) (n : ℕ) → n ≡ prim_size profile p → IsFactsOf (nonzero profile p) (whole_facts true n n n)
unfolding fault_of some_part refusal_of is_nullable layout_of weight_of
nonzero-facts profile p n e =
    let small : prim_size profile p ≤ 16 = prim_size-small profile p in
    let none : None ≡ weight_fault (prim_size profile p) = not_too_large (prim_size profile p) (omega arith) in record {
      fault = none;
      refusal = none;
      nullable = refl;
      aligned = refl;
      interior = refl;
      layout = λ h. record { size = e; align = e; weight = e; light = omega arith; heavier = omega arith; aligned = omega arith };
    }

pub never-facts : IsFactsOf never (whole_facts false 0 1 1)
unfolding fault_of some_part refusal_of is_nullable layout_of weight_of
never-facts = record {
  fault = refl;
  refusal = refl;
  nullable = refl;
  aligned = refl;
  interior = refl;
  layout = λ h. record { size = refl; align = refl; weight = refl; light = omega arith; heavier = omega arith; aligned = omega arith };
}

pub unit-facts : IsFactsOf unit (whole_facts false 0 1 1)
unfolding fault_of some_part refusal_of is_nullable layout_of weight_of
unit-facts = record {
  fault = refl;
  refusal = refl;
  nullable = refl;
  aligned = refl;
  interior = refl;
  layout = λ h. record { size = refl; align = refl; weight = refl; light = omega arith; heavier = omega arith; aligned = omega arith };
}

pub phantom-facts : IsFactsOf phantom (whole_facts false 0 1 1)
unfolding fault_of some_part refusal_of is_nullable layout_of weight_of
phantom-facts = record {
  fault = refl;
  refusal = refl;
  nullable = refl;
  aligned = refl;
  interior = refl;
  layout = λ h. record { size = refl; align = refl; weight = refl; light = omega arith; heavier = omega arith; aligned = omega arith };
}

pub ref-facts : (profile : Profile) (r : RefId) (n : ℕ) → n ≡ pointer_size profile → IsFactsOf (ref profile r) (whole_facts true n n n)
unfolding fault_of some_part refusal_of is_nullable layout_of weight_of
ref-facts profile r n e =
    let small : pointer_size profile ≤ 16 = pointer_size-small profile in
    let none : None ≡ weight_fault (pointer_size profile) = not_too_large (pointer_size profile) (omega arith) in record {
      fault = none;
      refusal = none;
      nullable = refl;
      aligned = refl;
      interior = refl;
      layout = λ h. record { size = e; align = e; weight = e; light = omega arith; heavier = omega arith; aligned = omega arith };
    }

-- ---- tuples

pub tuple-facts : (members : Fields) (aligned interior : Bool) → aligned ≡ some_field has_align members → interior ≡ some_field is_cell members
    → IsFactsOf (tuple members) (record (whole_facts false 0 1 1) { fault = Some Tuple; refusal = Some Tuple; aligned = aligned; interior = interior })
unfolding fault_of some_part refusal_of is_nullable layout_of weight_of
tuple-facts members aligned interior a i = record {
  fault = refl;
  refusal = refl;
  nullable = refl;
  aligned = a;
  interior = i;
  layout = λ h. cc;
}

-- ---- what holds of all types with parts

-- a type's first fault, where it's known for which cause its parts have no layout
pub fault-from : (t : Expanded) (below given : Option Why) → some_part has_cause t ≡ is_some below → (below ≡ None → given ≡ layout_fault t) → first_fault (own_fault t) below given ≡ fault_of t
unfolding fault_of
fault-from t None given p g = rw (p, g refl) refl
fault-from t (Some why) given p g = rw p refl

light : (w : ℕ) (b : Bool) → nat_lt weight_limit w ≡ b → when b TooLarge ≡ None → w ≤ weight_limit
light w true e h = cc
light w false e h = grind (arith, nat_tests)

-- a type for which there is no cause isn't too heavy
pub light-from : (t : Expanded) → some_part has_cause t ≡ false → fault_of t ≡ None → weight_of t ≤ weight_limit
unfolding fault_of
light-from t p e =
    let f = subst (λ b. or_else (own_fault t) (if b then None else layout_fault t) ≡ None) p e in
    let g = none-second (own_fault t) (layout_fault t) f in
    let h = none-second (when (has_two_sized t) TransparentFields) (or_else (when (is_packed t && some_part has_align t) PackedHoldsAlign) (weight_fault (weight_of t))) g in
    light (weight_of t) (nat_lt weight_limit (weight_of t)) refl (none-second (when (is_packed t && some_part has_align t) PackedHoldsAlign) (weight_fault (weight_of t)) h)

-- a weight is too large exactly where it is as it is reckoned
pub capped-past : (w : ℕ) → weight_fault (capped w) ≡ weight_fault w
capped-past w = ap (λ b. when b TooLarge) (past w) where
  past : (w : ℕ) → nat_lt weight_limit (capped w) ≡ nat_lt weight_limit w
  past w = grind (arith, nat_tests)

-- all facts of a type, where it's known for which cause its parts have no layout
pub composed-facts : (t : Expanded) (r : Facts) (below given : Option Why) → some_part has_cause t ≡ is_some below → refusal_of t ≡ or_else (fault_of t) below
    → (below ≡ None → given ≡ layout_fault t) → r.fault ≡ first_fault (own_fault t) below given → r.refusal ≡ option_or r.fault below
    → r.nullable ≡ is_nullable t → r.aligned ≡ some_within has_align t → r.interior ≡ has_interior t
    → (below ≡ None → fault_of t ≡ None → weight_of t ≤ weight_limit → HasLayout t r) → IsFactsOf t r
composed-facts t r below given p q g f e nullable aligned interior layout =
    let fault : r.fault ≡ fault_of t = f ∙ fault-from t below given p g in record {
      fault = fault;
      refusal = e ∙ option_or-or_else r.fault below ∙ ap (λ x. or_else x below) fault ∙ sym q;
      nullable = nullable;
      aligned = aligned;
      interior = interior;
      layout = λ h.
          let both : or_else (fault_of t) below ≡ None = sym q ∙ h in
          let none : below ≡ None = none-second (fault_of t) below both in
          let sound : fault_of t ≡ None = none-first (fault_of t) below both in
          layout none sound (light-from t (p ∙ ap is_some none) sound);
    }

-- ---- arrays

array-past : (x w : ℕ) → w ≡ max (capped x) 1 → weight_fault w ≡ weight_fault (max 1 x)
array-past x w e = ap (λ b. when b TooLarge) (past x w e) where
  past : (x w : ℕ) → w ≡ max (capped x) 1 → nat_lt weight_limit w ≡ nat_lt weight_limit (max 1 x)
  past x w e = grind (arith, nat_tests)

pub array-facts : (t : Expanded) (n : ℕ) (e r : Facts) → IsFactsOf t e → r.fault ≡ first_fault None e.refusal (weight_fault r.weight) → r.refusal ≡ option_or r.fault e.refusal
    → r.nullable ≡ false → r.aligned ≡ e.aligned → r.interior ≡ e.interior → r.size ≡ capped (n * e.size) → r.align ≡ e.align → r.weight ≡ max (capped (n * e.weight)) 1 → IsFactsOf (array t n) r
unfolding some_part refusal_of is_nullable layout_of weight_of
array-facts t n e r known f q nullable aligned interior size align weight =
    composed-facts (array t n) r e.refusal (weight_fault r.weight)
    (sym (refused-exactly t) ∙ ap is_some (sym known.refusal))
    (ap (λ x. or_else (fault_of (array t n)) x) (sym known.refusal))
    (λ none. array-past (n * weight_of t) r.weight (weight ∙ ap (λ (w : ℕ). max (capped (n * w)) 1) (known.layout (sym known.refusal ∙ none)).weight))
    f q nullable (aligned ∙ known.aligned) (interior ∙ known.interior)
    (λ none sound small. array-layout t n e r (known.layout (sym known.refusal ∙ none)) size align weight small) where
      array-layout : (t : Expanded) (n : ℕ) (e r : Facts) → HasLayout t e → r.size ≡ capped (n * e.size) → r.align ≡ e.align → r.weight ≡ max (capped (n * e.weight)) 1 → weight_of (array t n) ≤ weight_limit → HasLayout (array t n) r
      array-layout t n e r l size align weight small =
          let s = l.size in
          let w = l.weight in
          let a = l.align in
          let most = l.aligned in
          let sizes : n * e.size ≡ n * size_of t = ap (λ (k : ℕ). n * k) l.size in
          let weights : n * e.weight ≡ n * weight_of t = ap (λ (k : ℕ). n * k) l.weight in
          let heavier : n * e.size ≤ n * e.weight = mul-le-mul_left n l.heavier in record {
            size = omega arith;
            align = cc;
            weight = omega arith;
            light = omega arith;
            heavier = omega arith;
            aligned = omega arith;
          }

-- ---- wrappers

wrapped-past : (x w : ℕ) → w ≡ capped x → weight_fault w ≡ weight_fault x
wrapped-past x w e = ap weight_fault e ∙ capped-past x

wrapper_weight-is : (w : Wrapper) (n m : ℕ) → n ≡ m → wrapper_weight w n ≡ wrapper_weight w m
wrapper_weight-is w n m e = ap (wrapper_weight w) e

pub wrapped-facts : (w : Wrapper) (t : Expanded) (e r : Facts) → IsFactsOf t e → r.fault ≡ first_fault (when (is_option w && not e.nullable) OptionNotListed) e.refusal (weight_fault r.weight) → r.refusal ≡ option_or r.fault e.refusal
    → r.nullable ≡ false → r.aligned ≡ e.aligned → r.interior ≡ (is_cell_wrapper w || e.interior) → r.size ≡ e.size → r.align ≡ e.align → r.weight ≡ capped (e.weight + wrapper_weight w e.size) → IsFactsOf (wrap w t) r
unfolding some_part refusal_of is_nullable layout_of weight_of
wrapped-facts w t e r known f q nullable aligned interior size align weight =
    composed-facts (wrap w t) r e.refusal (weight_fault r.weight)
    (sym (refused-exactly t) ∙ ap is_some (sym known.refusal))
    (ap (λ x. or_else (fault_of (wrap w t)) x) (sym known.refusal))
    (λ none. let l = known.layout (sym known.refusal ∙ none) in wrapped-past (weight_of t + wrapper_weight w (size_of t)) r.weight (weight ∙ ap (λ (k : ℕ). capped (k + wrapper_weight w e.size)) l.weight ∙ ap (λ (k : ℕ). capped (weight_of t + wrapper_weight w k)) l.size))
    (f ∙ ap (λ b. first_fault (when (is_option w && not b) OptionNotListed) e.refusal (weight_fault r.weight)) known.nullable)
    q nullable (aligned ∙ known.aligned) (interior ∙ ap (λ b. is_cell_wrapper w || b) known.interior)
    (λ none sound small. wrapped-layout w t e r (known.layout (sym known.refusal ∙ none)) size align weight small) where
      wrapped-layout : (w : Wrapper) (t : Expanded) (e r : Facts) → HasLayout t e → r.size ≡ e.size → r.align ≡ e.align → r.weight ≡ capped (e.weight + wrapper_weight w e.size) → weight_of (wrap w t) ≤ weight_limit → HasLayout (wrap w t) r
      wrapped-layout w t e r l size align weight small =
          let s = l.size in
          let k = l.weight in
          let a = l.align in
          let most = l.aligned in
          let heavier = l.heavier in
          let added : wrapper_weight w e.size ≡ wrapper_weight w (size_of t) = wrapper_weight-is w e.size (size_of t) l.size in record {
            size = cc;
            align = cc;
            weight = omega arith;
            light = omega arith;
            heavier = omega arith;
            aligned = omega arith;
          }
