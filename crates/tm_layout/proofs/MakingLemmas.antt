-- Whole types and their parts, and what a table knows after a row is put into it.
use Rattle.std.proofs.Common.{◌≡◌, ℕ, zero, suc, ◌+◌, ◌<◌, ◌≤◌, ◌++◌, ◌⊎◌, inl, inr, ⊎_elim, refl, sym, ◌∙◌, ap, subst, true, false, List, [], ◌∷◌, length, Option, Some, None, slice_get, arith, Bor}
use Rattle.std.specs.List.{slice_set}
use Rattle.std.specs.Option.{is_some, option_copied}
use Rattle.std.proofs.lemmas.Bool.{eqb-true}
use Rattle.std.proofs.lemmas.Option.{none-some, same_Some, slice_get_cases, slice_get_within}
use Rattle.tm_base.specs.declared.definition.Def.{Def}
use Rattle.tm_base.specs.declared.definition.Field.{Field}
use Rattle.tm_base.specs.declared.definition.NamedRow.{NamedRow}
use Rattle.tm_base.specs.declared.definition.Variant.{Variant}
use Rattle.tm_base.specs.declared.ground.Ground.{Ground, out-Ground, Named}
use Rattle.tm_base.specs.declared.ground.Ground.TheOpen.{Ground-F}
use Rattle.tm_base.specs.declared.ground.Ground.TheVariants as ground_is
use Rattle.tm_base.specs.declared.ground.NamedId.{NamedId}
use Rattle.tm_base.specs.declared.ground.Wrapper.{Wrapper}
use Rattle.tm_base.specs.declared.ground.Wrapper.TheVariants as wrapper
use Rattle.tm_base.specs.declared.world.World.{World}
use Rattle.tm_base.specs.Expanded.{Expanded, too_deep, prim, never, unit, tuple, array, nonzero, phantom, wrap, ref, named, elements, fields_of, variants_of}
use Rattle.tm_base.specs.Parts.{some_part, some_field, some_variant, some_within}
use Rattle.tm_base.specs.Tables.{Tables, expanded_in}
use Rattle.tm_base.specs.Whole.{are_rows_in_form, has_its_types, is_row_of}
use Rattle.tm_base.specs.Worlds.{tables_of}
use Rattle.tm_base.proofs.WorldLemmas.{field-in_form, list_all-at, passes-whole}
use Rattle.tm_layout.specs.declared.row.RowFacts.{RowFacts}
use Rattle.tm_layout.specs.Made.{EachIs, IsKnown, IsRowOf, is_missing, is_unmade, lacks_row, made_in, row_at}
use Rattle.tm_layout.specs.Making.{AreKnown, AreRowsClosed, Grows, IsGrown, IsWrittenOut}
use Rattle.tm_layout.proofs.NodeLemmas.{all_nodes, element-nodes, nodes_in, nodes_of, row_nodes, variants-nodes}
use Rattle.tm_layout.proofs.RowLemmas.{first_true, second_true, named-level}
use Rattle.tm_layout.proofs.TableLemmas.{both_false, known-all, known-Array, known-level, known-Tuple, known-whole, known-Wrap, level-known, one_level, row-known, within_weaker, wrapped-other}

-- ---- rows of a world

-- a named type has its definition, with the variants that its types are for
pub def-of : (row : NamedRow) (def : Option Def) → is_row_of def row ≡ true → (d : Def) × (def ≡ Some d) × (has_its_types d.variants row.types ≡ true)
def-of row None h = cc
def-of row (Some d) h = (d, refl, h)

pub row-in_form : (world : World) (k : ℕ) (row : NamedRow) → slice_get world.named k ≡ Some row → is_row_of (slice_get world.defs row.def.0) row ≡ true
unfolding are_rows_in_form
row-in_form world k row at = list_all-at (λ one. is_row_of (slice_get world.defs one.def.0) one) world.named k row world.rows_in_form at

pub row-whole : (world : World) (k : ℕ) (row : NamedRow) → slice_get world.named k ≡ Some row → EachIs (EachIs (IsWrittenOut (tables_of world))) row.types
row-whole world k row at v types at_v f g at_f = record { whole = passes-whole world g (field-in_form world k v f row types g at at_v at_f) }

-- ---- whole types

module _ (tables : Tables) where
  whole-known : (g : Ground) → IsWrittenOut tables g → IsKnown tables [] g
  whole-known g whole = known-all tables [] (λ k. refl) g whole.whole

  known-is-whole : (g : Ground) → IsKnown tables [] g → IsWrittenOut tables g
  known-is-whole g known = record { whole = known-whole tables [] g known }

  whole-level : (g : Ground) (x : Ground-F Ground) → IsWrittenOut tables g → out-Ground g ≡ x → expanded_in tables g ≡ one_level tables [] x
  whole-level g x whole e = known-level tables [] g x (whole-known g whole) e

  pub whole-Tuple : (g : Ground) (gs : List Ground) → IsWrittenOut tables g → out-Ground g ≡ Ground-F.Tuple gs → EachIs (IsWrittenOut tables) gs
  whole-Tuple g gs whole e k x at = known-is-whole x (known-Tuple tables [] g gs (whole-known g whole) e k x at)

  pub whole-Array : (g element : Ground) (n : ℕ) → IsWrittenOut tables g → out-Ground g ≡ Ground-F.Array element n → IsWrittenOut tables element
  whole-Array g element n whole e = known-is-whole element (known-Array tables [] g element n (whole-known g whole) e)

  pub whole-Wrap : (g argument : Ground) (w : Wrapper) → (w ≡ wrapper.PhantomData → ⊥) → IsWrittenOut tables g → out-Ground g ≡ Ground-F.Wrap w argument → IsWrittenOut tables argument
  whole-Wrap g argument w other whole e = known-is-whole argument (known-Wrap tables [] g argument w other (whole-known g whole) e)

  -- a whole named type has a row
  pub whole-there : (id : NamedId) → IsWrittenOut tables (Named id) → slice_get tables.named id.0 ≡ None → ⊥
  whole-there id whole none =
      let (present, there) = row-known tables [] id (slice_get tables.named id.0) (level-known tables [] (Named id) (Ground-F.Named id) (whole-known (Named id) whole) (ground_is.outs-Named id)) in
      there none

  -- ---- the measure falls

  pub nodes-Tuple : (g : Ground) (gs : List Ground) → IsWrittenOut tables g → out-Ground g ≡ Ground-F.Tuple gs → nodes_in tables g ≡ 3 + all_nodes tables gs
  unfolding nodes_of
  nodes-Tuple g gs whole e = ap nodes_of (whole-level g (Ground-F.Tuple gs) whole e) ∙ ap (λ n. 3 + n) (element-nodes tables gs)

  pub nodes-Array : (g element : Ground) (n : ℕ) → IsWrittenOut tables g → out-Ground g ≡ Ground-F.Array element n → nodes_in tables g ≡ 3 + nodes_in tables element
  unfolding nodes_of
  nodes-Array g element n whole e = ap nodes_of (whole-level g (Ground-F.Array element n) whole e)

  pub nodes-Wrap : (g argument : Ground) (w : Wrapper) → (w ≡ wrapper.PhantomData → ⊥) → IsWrittenOut tables g → out-Ground g ≡ Ground-F.Wrap w argument → nodes_in tables g ≡ 3 + nodes_in tables argument
  unfolding nodes_of
  nodes-Wrap g argument w other whole e = ap nodes_of (whole-level g (Ground-F.Wrap w argument) whole e ∙ wrapped-other tables [] w argument other)

  pub nodes-row : (id : NamedId) (row : NamedRow) → IsWrittenOut tables (Named id) → slice_get tables.named id.0 ≡ Some row → is_row_of (slice_get tables.defs row.def.0) row ≡ true
      → nodes_in tables (Named id) ≡ 5 + row_nodes tables row.types
  unfolding nodes_of
  nodes-row id row whole at in_form =
      let (def, of_def, types) = def-of row (slice_get tables.defs row.def.0) in_form in
      ap nodes_of (named-level tables id row def whole at of_def) ∙ ap (λ n. 5 + n) (variants-nodes tables def.variants row.types types)

  -- ---- from the parts to the type

  module _ (rows : List (Option RowFacts)) where
    pub known-from : (g : Ground) (x : Ground-F Ground) → IsWrittenOut tables g → out-Ground g ≡ x → some_within (lacks_row rows) (one_level tables [] x) ≡ false → IsKnown tables rows g
    known-from g x whole e none = record { none_lacks = ap (some_within (lacks_row rows)) (whole-level g x whole e) ∙ none }

    members-known : (gs : List Ground) → EachIs (IsKnown tables rows) gs → some_field (lacks_row rows) (elements (expanded_in tables) gs) ≡ false
    unfolding some_part
    members-known [] known = refl
    members-known (g ∷ gs) known =
        both_false (some_within (lacks_row rows) (expanded_in tables g)) (some_field (lacks_row rows) (elements (expanded_in tables) gs)) (known 0 g refl).none_lacks (members-known gs (λ k x at. known (suc k) x at))

    pub known-of-Tuple : (g : Ground) (gs : List Ground) → IsWrittenOut tables g → out-Ground g ≡ Ground-F.Tuple gs → EachIs (IsKnown tables rows) gs → IsKnown tables rows g
    unfolding some_part
    known-of-Tuple g gs whole e known = known-from g (Ground-F.Tuple gs) whole e (members-known gs known)

    pub known-of-Array : (g element : Ground) (n : ℕ) → IsWrittenOut tables g → out-Ground g ≡ Ground-F.Array element n → IsKnown tables rows element → IsKnown tables rows g
    unfolding some_part
    known-of-Array g element n whole e known = known-from g (Ground-F.Array element n) whole e known.none_lacks

    pub known-of-Wrap : (g argument : Ground) (w : Wrapper) → (w ≡ wrapper.PhantomData → ⊥) → IsWrittenOut tables g → out-Ground g ≡ Ground-F.Wrap w argument → IsKnown tables rows argument → IsKnown tables rows g
    unfolding some_part
    known-of-Wrap g argument w other whole e known =
        known-from g (Ground-F.Wrap w argument) whole e (ap (some_within (lacks_row rows)) (wrapped-other tables [] w argument other) ∙ known.none_lacks)

    fields-known : (fs : List Field) (gs : List Ground) → length fs ≡ length gs → EachIs (IsKnown tables rows) gs → some_field (lacks_row rows) (fields_of (expanded_in tables) fs gs) ≡ false
    unfolding some_part
    fields-known [] gs e known = refl
    fields-known (f ∷ fs) [] e known = absurd (omega arith)
    fields-known (f ∷ fs) (g ∷ gs) e known =
        both_false (some_within (lacks_row rows) (expanded_in tables g)) (some_field (lacks_row rows) (fields_of (expanded_in tables) fs gs)) (known 0 g refl).none_lacks
        (fields-known fs gs (omega arith) (λ k x at. known (suc k) x at))

    variants-known : (vs : List Variant) (types : List (List Ground)) → has_its_types vs types ≡ true → AreKnown tables rows types → some_variant (lacks_row rows) (variants_of (expanded_in tables) vs types) ≡ false
    unfolding some_part
    variants-known [] types h known = refl
    variants-known (v ∷ vs) [] h known = cc
    variants-known (v ∷ vs) (gs ∷ types) h known =
        both_false (some_field (lacks_row rows) (fields_of (expanded_in tables) v.fields gs)) (some_variant (lacks_row rows) (variants_of (expanded_in tables) vs types))
        (fields-known v.fields gs (eqb-true (length v.fields) (length gs) (first_true _ (has_its_types vs types) h)) (known 0 gs refl))
        (variants-known vs types (second_true _ (has_its_types vs types) h) (λ k x at. known (suc k) x at))

    -- a named type is known where its row is made and its fields' types are known
    pub known-of-row : (id : NamedId) (row : NamedRow) → IsWrittenOut tables (Named id) → slice_get tables.named id.0 ≡ Some row → is_row_of (slice_get tables.defs row.def.0) row ≡ true
        → is_missing rows id.0 ≡ false → AreKnown tables rows row.types → IsKnown tables rows (Named id)
    unfolding some_part
    known-of-row id row whole at in_form made known =
        let (def, of_def, types) = def-of row (slice_get tables.defs row.def.0) in_form in
        record {
          none_lacks = ap (some_within (lacks_row rows)) (named-level tables id row def whole at of_def)
              ∙ both_false (is_missing rows id.0) (some_variant (lacks_row rows) (variants_of (expanded_in tables) def.variants row.types)) made (variants-known def.variants row.types types known);
        }

  -- ---- a table grows

  module _ (before after : List (Option RowFacts)) (grows : Grows before after) where
    lacks-grown : (t : Expanded) → lacks_row before t ≡ false → lacks_row after t ≡ false
    lacks-grown too_deep h = h
    lacks-grown (prim _ _) h = refl
    lacks-grown never h = refl
    lacks-grown unit h = refl
    lacks-grown (tuple _) h = refl
    lacks-grown (array _ _) h = refl
    lacks-grown (nonzero _ _) h = refl
    lacks-grown phantom h = refl
    lacks-grown (wrap _ _) h = refl
    lacks-grown (ref _ _) h = refl
    lacks-grown (named _ id _ _ _) h = grows.kept id.0 h

    -- what is known stays known
    pub known-grown : (g : Ground) → IsKnown tables before g → IsKnown tables after g
    known-grown g known = record { none_lacks = within_weaker (lacks_row before) (lacks_row after) lacks-grown (expanded_in tables g) known.none_lacks }

  pub grown-none : (rows : List (Option RowFacts)) → AreRowsClosed tables rows → IsGrown tables rows rows
  grown-none rows closed = record { closed = closed; grows = record { kept = λ k h. h } }

  pub grown-more : (a b c : List (Option RowFacts)) → IsGrown tables a b → IsGrown tables b c → IsGrown tables a c
  grown-more a b c first second = record { closed = second.closed; grows = record { kept = λ k h. second.grows.kept k (first.grows.kept k h) } }

-- ---- a row is put into the table

at-set : {X : Type 0} (xs : List X) (i : ℕ) (x : X) (j : ℕ) → i < length xs → ((j ≡ i) × (slice_get (slice_set xs i x) j ≡ Some x)) ⊎ (slice_get (slice_set xs i x) j ≡ slice_get xs j)
at-set [] i x j below = absurd (omega arith)
at-set (y ∷ ys) zero x zero below = inl (refl, refl)
at-set (y ∷ ys) zero x (suc j) below = inr refl
at-set (y ∷ ys) (suc i) x zero below = inr refl
at-set (y ∷ ys) (suc i) x (suc j) below =
    ⊎_elim (λ h. inl (ap (λ (n : ℕ). suc n) h.0, h.1)) (λ h. inr h) (at-set ys i x j (omega arith))

at-put : {X : Type 0} (xs : List X) (i : ℕ) (x : X) → i < length xs → slice_get (slice_set xs i x) i ≡ Some x
at-put [] i x below = absurd (omega arith)
at-put (y ∷ ys) zero x below = refl
at-put (y ∷ ys) (suc i) x below = at-put ys i x (omega arith)

length-put : {X : Type 0} (xs : List X) (i : ℕ) (x : X) → length (slice_set xs i x) ≡ length xs
length-put [] i x = refl
length-put (y ∷ ys) zero x = refl
length-put (y ∷ ys) (suc i) x = ap (λ (n : ℕ). suc n) (length-put ys i x)

module _ (tables : Tables) (rows : List (Option RowFacts)) (id : NamedId) (row : NamedRow) (made : RowFacts)
    (below : id.0 < length rows) (closed : AreRowsClosed tables rows) (whole : IsWrittenOut tables (Named id)) (at : slice_get tables.named id.0 ≡ Some row)
    (in_form : is_row_of (slice_get tables.defs row.def.0) row ≡ true) (known : AreKnown tables rows row.types) (right : IsRowOf (expanded_in tables (Named id)) made) where
  abbrev after : List (Option RowFacts)
  after = slice_set rows id.0 (Some made)

  put-grows : Grows rows after
  put-grows = record { kept = λ k h. ⊎_elim (λ e. ap is_unmade e.1) (λ e. ap is_unmade e ∙ h) (at-set rows id.0 (Some made) k below) }

  put-there : is_missing after id.0 ≡ false
  put-there = ap is_unmade (at-put rows id.0 (Some made) below)

  pub put-known : IsKnown tables after (Named id)
  put-known = known-of-row tables after id row whole at in_form put-there (λ v types at_v f g at_f. known-grown tables rows after put-grows g (known v types at_v f g at_f))

  pub put-grown : IsGrown tables rows after
  put-grown = record {
    closed = record {
      right = record {
        count = length-put rows id.0 (Some made) ∙ closed.right.count;
        right = λ k other e. ⊎_elim
            (λ same.
            let one : made ≡ other = same_Some made other (sym (ap made_in same.1) ∙ e) in
            subst (λ n. IsRowOf (expanded_in tables (Named (record { 0 = n }))) other) (sym same.0) (subst (IsRowOf (expanded_in tables (Named id))) one right))
            (λ same. closed.right.right k other (sym (ap made_in same) ∙ e))
            (at-set rows id.0 (Some made) k below);
      };
      closed = λ k other e. ⊎_elim
          (λ same. subst (λ n. IsKnown tables after (Named (record { 0 = n }))) (sym same.0) put-known)
          (λ same. known-grown tables rows after put-grows (Named (record { 0 = k })) (closed.closed k other (sym (ap made_in same) ∙ e)))
          (at-set rows id.0 (Some made) k below);
    };
    grows = put-grows;
  }

-- the table has a place for each named type
pub put-below : (tables : Tables) (rows : List (Option RowFacts)) (id : NamedId) (row : NamedRow) → AreRowsClosed tables rows → slice_get tables.named id.0 ≡ Some row → id.0 < length rows
put-below tables rows id row closed at = let within = slice_get_within tables.named id.0 row at in omega (arith, closed.right.count)

-- what is there behind a reference is there
pub some-copied : {X : Type 0} (o : Option (Bor X)) → is_some o ≡ true → (x : X) × (option_copied o ≡ Some x)
some-copied None some = cc
some-copied (Some x) some = (x.now, refl)

-- ---- the first table, and the last

pub none-more : (rows : List (Option RowFacts)) → ((k : ℕ) → row_at rows k ≡ None) → (k : ℕ) → row_at (rows ++ None ∷ []) k ≡ None
none-more [] none zero = refl
none-more [] none (suc k) = refl
none-more (row ∷ rows) none zero = none 0
none-more (row ∷ rows) none (suc k) = none-more rows (λ n. none (suc n)) k

-- a table without rows is right
pub none-closed : (tables : Tables) (rows : List (Option RowFacts)) → length rows ≡ length tables.named → ((k : ℕ) → row_at rows k ≡ None) → AreRowsClosed tables rows
none-closed tables rows count none = record {
  right = record { count = count; right = λ k row e. absurd (none-some row (sym (none k) ∙ e)) };
  closed = λ k row e. absurd (none-some row (sym (none k) ∙ e));
}

-- a known named type's row isn't missing
pub known-there : (tables : Tables) (rows : List (Option RowFacts)) (id : NamedId) → IsKnown tables rows (Named id) → is_missing rows id.0 ≡ false
known-there tables rows id known = (row-known tables rows id (slice_get tables.named id.0) (level-known tables rows (Named id) (Ground-F.Named id) known (ground_is.outs-Named id))).0

-- where none of the first rows is missing, and there are no others, none is
pub none-missing : (rows : List (Option RowFacts)) (n : ℕ) → length rows ≤ n → ((k : ℕ) → k < n → is_missing rows k ≡ false) → (k : ℕ) → is_missing rows k ≡ false
none-missing rows n past made k = ⊎_elim (λ inside. made k (omega (arith, inside.1))) (λ outside. ap is_unmade outside.1) (slice_get_cases rows k).1
