-- A type that isn't deeper than a number is written out whole within it.
use Rattle.std.proofs.Common.{◌≡◌, ℕ, zero, suc, Bool, true, false, ◌||◌, ◌==◌, true≢false, refl, sym, subst, ◌∙◌, List, [], ◌∷◌, length, Contains, Option, Some, None, slice_get, if◌then◌else◌, arith}
use Rattle.std.specs.List.{AllZip, list_any, flat_map}
use Rattle.std.proofs.lemmas.Bool.Decides.{Decides-eqb}
use Rattle.std.proofs.lemmas.List.Elements.{Contains-append_left, Contains-append_right}
use Rattle.std.proofs.lemmas.Bool.{or_from}
use Rattle.std.proofs.lemmas.List.Folds.{list_any-append}
use Rattle.tm_base.specs.declared.definition.Def.{Def}
use Rattle.tm_base.specs.declared.definition.Field.{Field}
use Rattle.tm_base.specs.declared.definition.NamedRow.{NamedRow}
use Rattle.tm_base.specs.declared.definition.Variant.{Variant}
use Rattle.tm_base.specs.declared.ground.Ground.{Ground}
use Rattle.tm_base.specs.declared.ground.Ground.TheVariants as ground_is
use Rattle.tm_base.specs.declared.ground.Wrapper.{Wrapper}
use Rattle.tm_base.specs.declared.ground.Wrapper.TheVariants as wrapper
use Rattle.tm_base.specs.Expanded.{Expanded, expanded_within, elements, fields_of as expanded_fields, variants_of, wrapped}
use Rattle.tm_base.specs.Parts.{some_part, some_field, some_variant, some_within, is_too_deep}
use Rattle.tm_base.specs.Whole.{has_its_types, is_row_of}
use Rattle.tm_names.specs.declared.resolved.Resolved.{Resolved}
use Rattle.tm_ground.specs.Closed.{Closed, Elements, prim, never, tuple, array, nonzero, wrap, named, ref, no_elements, element, listed}
use Rattle.tm_ground.specs.Limits.{depth_passes}
use Rattle.tm_ground.specs.Numbered.{IsNumbered, EachNumbered}
use Rattle.tm_ground.specs.Occurs.{is_holding, parts_of, parts_by_value, field_types, fields_of, Occurs}
use Rattle.tm_ground.specs.Rows.{IsNamedRow}
use Rattle.tm_ground.proofs.finding.ContainsLemmas.{contains-first, contains-behind}
use Rattle.tm_ground.proofs.forms.FormLemmas.{first, second}
use Rattle.tm_ground.proofs.finding.GrowLemmas.{contains-from_get}
use Rattle.tm_ground.proofs.numbers.StandsLemmas.{zip-get}

pub first-false : (a b : Bool) → (a || b) ≡ false → a ≡ false
first-false true b h = h
first-false false b h = refl

pub second-false : (a b : Bool) → (a || b) ≡ false → b ≡ false
second-false true b h = cc
second-false false b h = h

abbrev IsWholeType : Expanded → Type 0
IsWholeType t = some_within is_too_deep t ≡ false

row-of-some : (o : Option Def) (row : NamedRow) → is_row_of o row ≡ true → (d : Def) × (o ≡ Some d) × (has_its_types d.variants row.types ≡ true)
row-of-some None row h = cc
row-of-some (Some d) row h = (d, refl, h)

wrapped-whole : (part : Ground → Expanded) (w : Wrapper) (g : Ground) → (is_holding w ≡ true → IsWholeType (part g)) → IsWholeType (wrapped part w g)
unfolding some_part
wrapped-whole part wrapper.PhantomData g h = refl
wrapped-whole part wrapper.Option g h = h refl
wrapped-whole part wrapper.MaybeUninit g h = h refl
wrapped-whole part wrapper.ManuallyDrop g h = h refl
wrapped-whole part wrapper.Wrapping g h = h refl
wrapped-whole part wrapper.Cell g h = h refl
wrapped-whole part wrapper.UnsafeCell g h = h refl

held-shallow : (p : Closed → Bool) (b : Bool) (c : Closed) → list_any p (if b then c ∷ [] else []) ≡ false → b ≡ true → p c ≡ false
held-shallow p true c h e = first-false _ _ h
held-shallow p false c h e = cc

module _ (resolved : Resolved) (types refs : List Closed) (rows : List NamedRow)
    (of_rows : AllZip (IsNamedRow types refs resolved) types rows)
    (typed : (c : Closed) (row : NamedRow) → Contains types c → IsNamedRow types refs resolved c row → is_row_of (slice_get resolved.defs row.def.0) row ≡ true)
    (part-occurs : (whole c : Closed) → Occurs resolved whole → Contains (parts_of resolved whole) c → Occurs resolved c) where
  -- what is said of the parts of a type, up to one level less
  module _ (n : ℕ) (below : (c : Closed) (g : Ground) → Occurs resolved c → IsNumbered types refs c g → depth_passes resolved n c ≡ false → IsWholeType (expanded_within resolved.profile n resolved.defs rows g)) where
    abbrev part : Ground → Expanded
    part = expanded_within resolved.profile n resolved.defs rows

    elements-whole : (cs : Elements) (gs : List Ground) → EachNumbered types refs cs gs → ((d : Closed) → Contains (listed cs) d → Occurs resolved d) → list_any (depth_passes resolved n) (listed cs) ≡ false → some_field is_too_deep (elements part gs) ≡ false
    unfolding some_part IsNumbered
    elements-whole no_elements gs h o e = rw h refl
    elements-whole (element c cs) [] h o e = absurd h
    elements-whole (element c cs) (g ∷ gs) (a, b) o e =
        or_from _ _ (below c g (o c (contains-first c (listed cs))) a (first-false _ _ e)) (elements-whole cs gs b (λ d i. o d (contains-behind c (listed cs) d i)) (second-false (depth_passes resolved n c) _ e))

    fields-whole : (fs : List Field) (cs : List Closed) (gs : List Ground) → length fs ≡ length gs → AllZip (IsNumbered types refs) cs gs → ((d : Closed) → Contains cs d → Occurs resolved d) → list_any (depth_passes resolved n) cs ≡ false → some_field is_too_deep (expanded_fields part fs gs) ≡ false
    unfolding some_part
    fields-whole [] cs gs l z o e = refl
    fields-whole (f ∷ fs) cs [] l z o e = absurd (omega (arith, l))
    fields-whole (f ∷ fs) [] (g ∷ gs) l z o e = absurd z
    fields-whole (f ∷ fs) (c ∷ cs) (g ∷ gs) l z o e =
        or_from _ _ (below c g (o c (contains-first c cs)) z.0 (first-false _ _ e)) (fields-whole fs cs gs (omega (arith, l)) z.1 (λ d i. o d (contains-behind c cs d i)) (second-false (depth_passes resolved n c) _ e))

    variants-whole : (vs : List Variant) (css : List (List Closed)) (gs : List (List Ground)) → has_its_types vs gs ≡ true → AllZip (AllZip (IsNumbered types refs)) css gs → ((d : Closed) → Contains (flat_map (λ cs. cs) css) d → Occurs resolved d) → list_any (depth_passes resolved n) (flat_map (λ cs. cs) css) ≡ false → some_variant is_too_deep (variants_of part vs gs) ≡ false
    unfolding some_part
    variants-whole [] css gs h z o e = refl
    variants-whole (v ∷ vs) css [] h z o e = cc
    variants-whole (v ∷ vs) [] (g ∷ gs) h z o e = absurd z
    variants-whole (v ∷ vs) (cs ∷ css) (g ∷ gs) h z o e =
        let split = sym (list_any-append (depth_passes resolved n) cs (flat_map (λ xs. xs) css)) ∙ e in
        let same = (Decides-eqb (length v.fields) (length g)).0 (first _ _ h) in
        or_from _ _
        (fields-whole v.fields cs g same z.0 (λ d i. o d (Contains-append_left cs _ d i)) (first-false _ _ split))
        (variants-whole vs css gs (second (length v.fields == length g) _ h) z.1 (λ d i. o d (Contains-append_right cs _ d i)) (second-false (list_any (depth_passes resolved n) cs) _ split))

  pub whole-at : (n : ℕ) (c : Closed) (g : Ground) → Occurs resolved c → IsNumbered types refs c g → depth_passes resolved n c ≡ false → IsWholeType (expanded_within resolved.profile n resolved.defs rows g)
  unfolding expanded_within some_part depth_passes IsNumbered
  whole-at zero c g o h e = absurd (true≢false e)
  whole-at (suc n) (prim p) g o h e = rw (h, ground_is.outs-Prim p) refl
  whole-at (suc n) never g o h e = rw (h, ground_is.outs-Never) refl
  whole-at (suc n) (tuple no_elements) g o h e = rw (h, ground_is.outs-Unit) refl
  whole-at (suc n) (tuple (element c cs)) g o (x, xs, s, a, b) e =
      rw (s, ground_is.outs-Tuple (x ∷ xs)) (elements-whole n (whole-at n) (element c cs) (x ∷ xs) (a, b) (λ d i. part-occurs (tuple (element c cs)) d o i) e)
  whole-at (suc n) (array c k) g o (x, s, a) e =
      rw (s, ground_is.outs-Array x k) (whole-at n c x (part-occurs (array c k) c o (contains-first c [])) a (first-false _ _ e))
  whole-at (suc n) (nonzero p) g o h e = rw (h, ground_is.outs-NonZero p) refl
  whole-at (suc n) (wrap w c) g o (x, s, a) e =
      rw (s, ground_is.outs-Wrap w x) (wrapped-whole (expanded_within resolved.profile n resolved.defs rows) w x (λ b. whole-at n c x (part-occurs (wrap w c) c o (contains-first c [])) a (held-shallow (depth_passes resolved n) (is_holding w) c e b)))
  whole-at (suc n) (named def rs args) g o (id, s, at) e =
      let (row, found, r) = zip-get (IsNamedRow types refs resolved) types rows id.0 (named def rs args) of_rows at in
      let (d, is, fit) = row-of-some (slice_get resolved.defs row.def.0) row (typed (named def rs args) row (contains-from_get types id.0 (named def rs args) at) r) in
      let occurs = subst (Occurs resolved) r.type o in
      let shallow = subst (λ x. list_any (depth_passes resolved n) (parts_by_value resolved x) ≡ false) r.type e in
      let inner : (x : Closed) → Contains (fields_of resolved row.def row.regions (listed r.args)) x → Occurs resolved x = λ x i. part-occurs (named row.def row.regions r.args) x occurs (Contains-append_right (listed r.args) (fields_of resolved row.def row.regions (listed r.args)) x i) in
      rw (s, ground_is.outs-Named id, found, is) (variants-whole n (whole-at n) d.variants (field_types resolved row.def row.regions (listed r.args)) row.types fit r.fields inner shallow)
  whole-at (suc n) (ref region mutable c) g o (r, s, at) e = rw (s, ground_is.outs-Ref r) refl
