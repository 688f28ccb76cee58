-- What is known of a type: its rows and its parts, kind by kind.
use Rattle.std.proofs.Common.{◌≡◌, ℕ, zero, suc, refl, sym, ◌∙◌, ap, subst, Bool, true, false, ◌||◌, ◌&&◌, not, IsTrue, List, [], ◌∷◌, length, Option, Some, None, slice_get, arith}
use Rattle.tm_base.specs.declared.definition.Def.{Def}
use Rattle.tm_base.specs.declared.definition.NamedRow.{NamedRow}
use Rattle.tm_base.specs.declared.ground.Ground.{Ground, out-Ground, Named}
use Rattle.tm_base.specs.declared.ground.Ground.TheOpen.{Ground-F}
use Rattle.tm_base.specs.declared.ground.Ground.TheVariants as ground_is
use Rattle.tm_base.specs.declared.ground.NamedId.{NamedId}
use Rattle.tm_base.specs.declared.ground.Wrapper.{Wrapper}
use Rattle.tm_base.specs.declared.ground.Wrapper.TheVariants as wrapper
use Rattle.tm_base.specs.Expanded.{depth_limit, expanded_within, Expanded, Fields, Variants, too_deep, prim, never, unit, tuple, array, nonzero, phantom, wrap, ref, named, no_fields, field, no_variants, variant, elements, level, row_of, defined, wrapped}
use Rattle.tm_base.specs.Parts.{some_part, some_field, some_variant, some_within, is_too_deep, is_whole}
use Rattle.tm_base.specs.Tables.{Tables, expanded_in}
use Rattle.tm_base.specs.Whole.{is_head_in_form, is_type_over, written_types}
use Rattle.tm_base.specs.Worlds.{IsTypeOver}
use Rattle.std.specs.List.{list_all}
use Rattle.tm_base.proofs.ExpandedLemmas.{expanded-level}
use Rattle.tm_layout.specs.declared.facts.Facts.{Facts}
use Rattle.tm_layout.specs.declared.row.RowFacts.{RowFacts}
use Rattle.tm_layout.specs.Known.{IsFactsOf}
use Rattle.tm_layout.specs.Made.{AreRowsOf, EachIs, IsKnown, is_missing, is_unmade, lacks_row, made_in, row_at}

-- ---- tests of a type and its parts

pub first_false : (a b : Bool) → (a || b) ≡ false → a ≡ false
first_false true b h = h
first_false false b h = refl

pub second_false : (a b : Bool) → (a || b) ≡ false → b ≡ false
second_false true b h = cc
second_false false b h = h

pub both_false : (a b : Bool) → a ≡ false → b ≡ false → (a || b) ≡ false
both_false true b h k = h
both_false false b h k = k

not-true : (b : Bool) → not b ≡ true → b ≡ false
not-true true h = cc
not-true false h = refl

second_true : (a b : Bool) → (a && b) ≡ true → b ≡ true
second_true true b h = h
second_true false b h = cc

-- what fails of a type and its parts makes what it rests on fail
module _ (p q : Expanded → Bool) (weaker : (t : Expanded) → p t ≡ false → q t ≡ false) where
  either_weaker : (t : Expanded) (a b : Bool) → (a ≡ false → b ≡ false) → (p t || a) ≡ false → (q t || b) ≡ false
  either_weaker t a b part h = both_false (q t) b (weaker t (first_false (p t) a h)) (part (second_false (p t) a h))

  mutual
    unfolding some_part

    part_weaker : (t : Expanded) → some_part p t ≡ false → some_part q t ≡ false
    part_weaker too_deep h = refl
    part_weaker (prim _ _) h = refl
    part_weaker never h = refl
    part_weaker unit h = refl
    part_weaker (tuple members) h = field_weaker members h
    part_weaker (array t n) h = either_weaker t (some_part p t) (some_part q t) (part_weaker t) h
    part_weaker (nonzero _ _) h = refl
    part_weaker phantom h = refl
    part_weaker (wrap w t) h = either_weaker t (some_part p t) (some_part q t) (part_weaker t) h
    part_weaker (ref _ _) h = refl
    part_weaker (named _ id kind repr variants) h = variant_weaker variants h

    field_weaker : (fs : Fields) → some_field p fs ≡ false → some_field q fs ≡ false
    field_weaker no_fields h = refl
    field_weaker (field public t rest) h =
        let here = first_false (some_within p t) (some_field p rest) h in
        let there = second_false (some_within p t) (some_field p rest) h in
        both_false (some_within q t) (some_field q rest) (either_weaker t (some_part p t) (some_part q t) (part_weaker t) here) (field_weaker rest there)

    variant_weaker : (vs : Variants) → some_variant p vs ≡ false → some_variant q vs ≡ false
    variant_weaker no_variants h = refl
    variant_weaker (variant value members rest) h =
        let here = first_false (some_field p members) (some_variant p rest) h in
        let there = second_false (some_field p members) (some_variant p rest) h in
        both_false (some_field q members) (some_variant q rest) (field_weaker members here) (variant_weaker rest there)

  pub within_weaker : (t : Expanded) → some_within p t ≡ false → some_within q t ≡ false
  within_weaker t h = either_weaker t (some_part p t) (some_part q t) (part_weaker t) h

-- ---- rows

pub made_in-some : (o : Option (Option RowFacts)) (row : RowFacts) → made_in o ≡ Some row → o ≡ Some (Some row)
made_in-some (Some (Some other)) row e = ap (λ made. Some made) e
made_in-some (Some None) row e = cc
made_in-some None row e = cc

made_in-none : (o : Option (Option RowFacts)) → made_in o ≡ None → is_unmade o ≡ false → o ≡ None
made_in-none (Some (Some other)) e h = cc
made_in-none (Some None) e h = cc
made_in-none None e h = refl

-- of two lists of one length, what one doesn't have the other doesn't
none-of-as-many : {X Y : Type 0} (xs : List X) (ys : List Y) (k : ℕ) → length xs ≡ length ys → slice_get xs k ≡ None → slice_get ys k ≡ None
none-of-as-many [] [] k e h = refl
none-of-as-many [] (y ∷ ys) k e h = absurd (omega arith)
none-of-as-many (x ∷ xs) [] k e h = refl
none-of-as-many (x ∷ xs) (y ∷ ys) zero e h = cc
none-of-as-many (x ∷ xs) (y ∷ ys) (suc k) e h = none-of-as-many xs ys k (omega arith) h

-- ---- known types

module _ (tables : Tables) (rows : List (Option RowFacts)) where
  abbrev pub part : Ground → Expanded
  part = expanded_in tables

  abbrev pub one_level : Ground-F Ground → Expanded
  one_level = level part tables.profile tables.defs tables.named

  deep-lacks : (t : Expanded) → lacks_row rows t ≡ false → is_too_deep t ≡ false
  deep-lacks too_deep h = h
  deep-lacks (prim _ _) h = refl
  deep-lacks never h = refl
  deep-lacks unit h = refl
  deep-lacks (tuple _) h = refl
  deep-lacks (array _ _) h = refl
  deep-lacks (nonzero _ _) h = refl
  deep-lacks phantom h = refl
  deep-lacks (wrap _ _) h = refl
  deep-lacks (ref _ _) h = refl
  deep-lacks (named _ _ _ _ _) h = refl

  pub known-whole : (g : Ground) → IsKnown tables rows g → IsTrue (is_whole (part g))
  known-whole g known = ap not (within_weaker (lacks_row rows) is_too_deep deep-lacks (part g) known.none_lacks)

  -- a known type is one level over its parts
  pub known-level : (g : Ground) (x : Ground-F Ground) → IsKnown tables rows g → out-Ground g ≡ x → part g ≡ one_level x
  known-level g x known e = expanded-level tables.profile tables.defs tables.named g (known-whole g known) ∙ ap one_level e

  pub level-known : (g : Ground) (x : Ground-F Ground) → IsKnown tables rows g → out-Ground g ≡ x → some_within (lacks_row rows) (one_level x) ≡ false
  level-known g x known e = ap (some_within (lacks_row rows)) (sym (known-level g x known e)) ∙ known.none_lacks

  -- the facts of a known type are those of its level
  pub facts-level : (g : Ground) (x : Ground-F Ground) (facts : Facts) → IsKnown tables rows g → out-Ground g ≡ x → IsFactsOf (one_level x) facts → IsFactsOf (part g) facts
  facts-level g x facts known e is = subst (λ t. IsFactsOf t facts) (sym (known-level g x known e)) is

  each-known : (gs : List Ground) → some_field (lacks_row rows) (elements part gs) ≡ false → EachIs (IsKnown tables rows) gs
  unfolding some_part
  each-known [] h k x e = cc
  each-known (g ∷ gs) h zero x e =
      let same : g ≡ x = cc in
      let none = first_false (some_within (lacks_row rows) (part g)) (some_field (lacks_row rows) (elements part gs)) h in
      subst (IsKnown tables rows) same (record { none_lacks = none })
  each-known (g ∷ gs) h (suc k) x e = each-known gs (second_false (some_within (lacks_row rows) (part g)) (some_field (lacks_row rows) (elements part gs)) h) k x e

  pub known-Tuple : (g : Ground) (gs : List Ground) → IsKnown tables rows g → out-Ground g ≡ Ground-F.Tuple gs → EachIs (IsKnown tables rows) gs
  unfolding some_part
  known-Tuple g gs known e = each-known gs (level-known g (Ground-F.Tuple gs) known e)

  pub known-Array : (g element : Ground) (n : ℕ) → IsKnown tables rows g → out-Ground g ≡ Ground-F.Array element n → IsKnown tables rows element
  unfolding some_part
  known-Array g element n known e = record { none_lacks = level-known g (Ground-F.Array element n) known e }

  pub wrapped-other : (w : Wrapper) (g : Ground) → (w ≡ wrapper.PhantomData → ⊥) → wrapped part w g ≡ wrap w (part g)
  wrapped-other wrapper.PhantomData g h = absurd (h refl)
  wrapped-other wrapper.Option g h = refl
  wrapped-other wrapper.MaybeUninit g h = refl
  wrapped-other wrapper.ManuallyDrop g h = refl
  wrapped-other wrapper.Wrapping g h = refl
  wrapped-other wrapper.Cell g h = refl
  wrapped-other wrapper.UnsafeCell g h = refl

  pub known-Wrap : (g argument : Ground) (w : Wrapper) → (w ≡ wrapper.PhantomData → ⊥) → IsKnown tables rows g → out-Ground g ≡ Ground-F.Wrap w argument → IsKnown tables rows argument
  unfolding some_part
  known-Wrap g argument w other known e =
      record { none_lacks = ap (some_within (lacks_row rows)) (sym (wrapped-other w argument other)) ∙ level-known g (Ground-F.Wrap w argument) known e }

  defined-known : (id : NamedId) (types : List (List Ground)) (def : Option Def) → some_within (lacks_row rows) (defined part tables.profile id types def) ≡ false → is_missing rows id.0 ≡ false
  defined-known id types None h = cc
  defined-known id types (Some def) h = first_false (is_missing rows id.0) _ h

  pub row-known : (id : NamedId) (row : Option NamedRow) → some_within (lacks_row rows) (row_of part tables.profile tables.defs id row) ≡ false → (is_missing rows id.0 ≡ false) × (row ≡ None → ⊥)
  row-known id None h = cc
  row-known id (Some row) h = (defined-known id row.types (slice_get tables.defs row.def.0) h, λ e. cc)

  -- the row of a known named type is made
  pub known-made : (id : NamedId) → AreRowsOf tables rows → IsKnown tables rows (Named id) → row_at rows id.0 ≡ None → ⊥
  known-made id are known none =
      let (present, there) = row-known id (slice_get tables.named id.0) (level-known (Named id) (Ground-F.Named id) known (ground_is.outs-Named id)) in
      there (none-of-as-many rows tables.named id.0 are.count (made_in-none (slice_get rows id.0) none present))

  deep-known : ((k : ℕ) → is_missing rows k ≡ false) → (t : Expanded) → is_too_deep t ≡ false → lacks_row rows t ≡ false
  deep-known all too_deep h = h
  deep-known all (prim _ _) h = refl
  deep-known all never h = refl
  deep-known all unit h = refl
  deep-known all (tuple _) h = refl
  deep-known all (array _ _) h = refl
  deep-known all (nonzero _ _) h = refl
  deep-known all phantom h = refl
  deep-known all (wrap _ _) h = refl
  deep-known all (ref _ _) h = refl
  deep-known all (named _ id _ _ _) h = all id.0

  -- where all rows are made, each whole type is known
  pub known-all : ((k : ℕ) → is_missing rows k ≡ false) → (g : Ground) → IsTrue (is_whole (part g)) → IsKnown tables rows g
  known-all all g whole = record { none_lacks = within_weaker is_too_deep (lacks_row rows) (deep-known all) (part g) (not-true (some_within is_too_deep (part g)) whole) }

  nowhere-within : (n : ℕ) (id : NamedId) → slice_get tables.named id.0 ≡ None → expanded_within tables.profile n tables.defs tables.named (Named id) ≡ too_deep
  unfolding expanded_within
  nowhere-within zero id e = refl
  nowhere-within (suc n) id e =
      ap (level (expanded_within tables.profile n tables.defs tables.named) tables.profile tables.defs tables.named) (ground_is.outs-Named id) ∙ ap (row_of (expanded_within tables.profile n tables.defs tables.named) tables.profile tables.defs id) e

  -- a number that names nothing has no type
  pub nowhere : (id : NamedId) → ((k : ℕ) → is_missing rows k ≡ false) → AreRowsOf tables rows → row_at rows id.0 ≡ None → part (Named id) ≡ too_deep
  nowhere id all are none = nowhere-within depth_limit id (none-of-as-many rows tables.named id.0 are.count (made_in-none (slice_get rows id.0) none (all id.0)))

-- a type over a world is whole
pub over-whole : (tables : Tables) (g : Ground) → IsTypeOver tables g → IsTrue (is_whole (expanded_in tables g))
unfolding is_type_over
over-whole tables g over = second_true (list_all (λ h. is_head_in_form (length tables.named) (length tables.refs) (out-Ground h)) (written_types g)) (is_whole (expanded_in tables g)) over
