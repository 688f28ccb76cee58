-- What a type that has a layout holds by value has one too.
use Rattle.std.proofs.Common.{◌≡◌, ℕ, zero, suc, ◌++◌, refl, sym, ◌∙◌, ap, subst, Bool, true, false, ◌&&◌, List, [], ◌∷◌, length, Option, None, Some, slice_get, arith}
use Rattle.std.specs.List.{Contains, flat_map, list_all}
use Rattle.std.specs.Option.{is_some}
use Rattle.std.proofs.lemmas.Bool.{eqb-true}
use Rattle.std.proofs.lemmas.List.Elements.{Contains-append_left, Contains-append_right}
use Rattle.tm_base.specs.declared.definition.Def.{Def}
use Rattle.tm_base.specs.declared.definition.Field.{Field}
use Rattle.tm_base.specs.declared.definition.NamedRow.{NamedRow}
use Rattle.tm_base.specs.declared.definition.Variant.{Variant}
use Rattle.tm_base.specs.declared.ground.Ground.{Ground, out-Ground, Named, Prim}
use Rattle.tm_base.specs.declared.ground.Ground.TheOpen.{Ground-F}
use Rattle.tm_base.specs.declared.ground.Ground.TheVariants as ground_is
use Rattle.tm_base.specs.declared.ground.NamedId.{NamedId}
use Rattle.tm_base.specs.declared.ground.Primitive.{Primitive}
use Rattle.tm_base.specs.declared.ground.Wrapper.{Wrapper}
use Rattle.tm_base.specs.declared.ground.Wrapper.TheVariants as wrapper
use Rattle.tm_base.specs.declared.world.World.{World}
use Rattle.tm_base.specs.Expanded.{Expanded, array, named, prim, wrap, expanded_within, fields_of, level, variants_of}
use Rattle.tm_base.specs.Faults.{has_cause, has_no_layout}
use Rattle.tm_base.specs.Layout.{layout_of, prim_size, size_of}
use Rattle.tm_base.specs.Parts.{is_whole, some_part, some_field, some_variant, some_within}
use Rattle.tm_base.specs.Reaches.{ChainIn, argument_of, parts_within, pointees_within, row_parts}
use Rattle.tm_base.specs.Tables.{Tables, expanded_in}
use Rattle.tm_base.specs.Whole.{are_defs_in_form, has_its_types, is_def_in_form, is_head_in_form, is_row_of, is_type_over, written_types}
use Rattle.tm_base.specs.Worlds.{IsTypeOver, tables_of}
use Rattle.tm_base.proofs.ExpandedLemmas.{expanded-level}
use Rattle.tm_base.proofs.WorldLemmas.{list_all-at}
use Rattle.tm_layout.specs.Making.{IsWrittenOut}
use Rattle.tm_layout.proofs.FactLemmas.{primitive-facts}
use Rattle.tm_layout.proofs.MakingLemmas.{row-in_form}
use Rattle.tm_layout.proofs.OverLemmas.{reached-over}
use Rattle.tm_layout.proofs.RefusalLemmas.{refused-exactly}
use Rattle.tm_layout.proofs.RowLemmas.{first_true, named-level, second_true}
use Rattle.tm_layout.proofs.TableLemmas.{first_false, over-whole, second_false, wrapped-other}
use Rattle.tm_layout.specs.LaidOut.{IsDefinition, IsLaidOut}

both_true : (a b : Bool) → a ≡ true → b ≡ true → (a && b) ≡ true
both_true a b p q = cc

-- a type over a world is written out
pub written : (tables : Tables) (g : Ground) → IsLaidOut tables g → IsWrittenOut tables g
written tables g laid = record { whole = over-whole tables g laid.over }

pub argument-other : (w : Wrapper) (g : Ground) → (w ≡ wrapper.PhantomData → ⊥) → argument_of w g ≡ g ∷ []
argument-other wrapper.PhantomData g other = absurd (other refl)
argument-other wrapper.Option g other = refl
argument-other wrapper.MaybeUninit g other = refl
argument-other wrapper.ManuallyDrop g other = refl
argument-other wrapper.Wrapping g other = refl
argument-other wrapper.Cell g other = refl
argument-other wrapper.UnsafeCell g other = refl

contains-at : (gs : List Ground) (k : ℕ) (g : Ground) → slice_get gs k ≡ Some g → Contains gs g
contains-at [] k g at = cc
contains-at (h ∷ gs) zero g at = let same : h ≡ g = cc in (0, omega arith, same)
contains-at (h ∷ gs) (suc k) g at = let (n, below, is) = contains-at gs k g at in (suc n, omega arith, is)

-- what stands in one of some lists stands in all of them together
contains-in : (types : List (List Ground)) (v : ℕ) (gs : List Ground) (g : Ground) → slice_get types v ≡ Some gs → Contains gs g → Contains (flat_map (λ hs. hs) types) g
contains-in [] v gs g at inside = cc
contains-in (hs ∷ types) zero gs g at inside =
    let same : hs ≡ gs = cc in
    Contains-append_left hs (flat_map (λ hs. hs) types) g (subst (λ xs. Contains xs g) (sym same) inside)
contains-in (hs ∷ types) (suc v) gs g at inside = Contains-append_right hs (flat_map (λ hs. hs) types) g (contains-in types v gs g at inside)

module _ (part : Ground → Expanded) where
  fields-sound : (fs : List Field) (gs : List Ground) → length fs ≡ length gs → some_field has_cause (fields_of part fs gs) ≡ false → (k : ℕ) (g : Ground) → slice_get gs k ≡ Some g → has_no_layout (part g) ≡ false
  unfolding some_part
  fields-sound fs [] e sound k g at = cc
  fields-sound [] (h ∷ gs) e sound k g at = absurd (omega arith)
  fields-sound (f ∷ fs) (h ∷ gs) e sound zero g at =
      let same : h ≡ g = cc in
      subst (λ x. has_no_layout (part x) ≡ false) same (first_false (some_within has_cause (part h)) (some_field has_cause (fields_of part fs gs)) sound)
  fields-sound (f ∷ fs) (h ∷ gs) e sound (suc k) g at =
      fields-sound fs gs (omega arith) (second_false (some_within has_cause (part h)) (some_field has_cause (fields_of part fs gs)) sound) k g at

  variants-sound : (vs : List Variant) (types : List (List Ground)) → has_its_types vs types ≡ true → some_variant has_cause (variants_of part vs types) ≡ false
      → (v : ℕ) (gs : List Ground) → slice_get types v ≡ Some gs → (k : ℕ) (g : Ground) → slice_get gs k ≡ Some g → has_no_layout (part g) ≡ false
  unfolding some_part
  variants-sound vs [] shaped sound v gs at_v k g at = cc
  variants-sound [] (hs ∷ types) shaped sound v gs at_v k g at = cc
  variants-sound (x ∷ vs) (hs ∷ types) shaped sound zero gs at_v k g at =
      let same : hs ≡ gs = cc in
      fields-sound x.fields hs (eqb-true (length x.fields) (length hs) (first_true _ (has_its_types vs types) shaped))
      (first_false (some_field has_cause (fields_of part x.fields hs)) (some_variant has_cause (variants_of part vs types)) sound) k g (subst (λ xs. slice_get xs k ≡ Some g) (sym same) at)
  variants-sound (x ∷ vs) (hs ∷ types) shaped sound (suc v) gs at_v k g at =
      variants-sound vs types (second_true _ (has_its_types vs types) shaped)
      (second_false (some_field has_cause (fields_of part x.fields hs)) (some_variant has_cause (variants_of part vs types)) sound) v gs at_v k g at

module _ (world : World) where
  abbrev part : Ground → Expanded
  part = expanded_in (tables_of world)

  abbrev one_level : Ground-F Ground → Expanded
  one_level = level part world.profile world.defs world.named

  -- a type with a layout is one level over its parts
  pub level-of : (g : Ground) (x : Ground-F Ground) → IsLaidOut (tables_of world) g → out-Ground g ≡ x → part g ≡ one_level x
  level-of g x laid e = expanded-level world.profile world.defs world.named g (over-whole (tables_of world) g laid.over) ∙ ap one_level e

  level-sound : (g : Ground) (x : Ground-F Ground) → IsLaidOut (tables_of world) g → out-Ground g ≡ x → has_no_layout (one_level x) ≡ false
  level-sound g x laid e = ap has_no_layout (sym (level-of g x laid e)) ∙ laid.sound

  -- a tuple has no layout
  pub no-Tuple : (g : Ground) (gs : List Ground) → IsLaidOut (tables_of world) g → out-Ground g ≡ Ground-F.Tuple gs → ⊥
  no-Tuple g gs laid e = let none : true ≡ false = level-sound g (Ground-F.Tuple gs) laid e in cc

  entered-over : (g h : Ground) (x : Ground-F Ground) → IsLaidOut (tables_of world) g → out-Ground g ≡ x → Contains (parts_within world.named x ++ pointees_within world.refs x) h → IsTypeOver (tables_of world) h
  unfolding ChainIn
  entered-over g h x laid e at = reached-over world g h laid.over (1, (h, subst (λ y. Contains (parts_within world.named y ++ pointees_within world.refs y) h) (sym e) at, refl))

  pub inside-Array : (g k : Ground) (n : ℕ) → IsLaidOut (tables_of world) g → out-Ground g ≡ Ground-F.Array k n → IsLaidOut (tables_of world) k
  unfolding some_part
  inside-Array g k n laid e = record {
    over = entered-over g k (Ground-F.Array k n) laid e (0, omega arith, refl);
    sound = second_false (has_cause (array (part k) n)) (some_within has_cause (part k)) (level-sound g (Ground-F.Array k n) laid e);
  }

  pub inside-Wrap : (g k : Ground) (w : Wrapper) → (w ≡ wrapper.PhantomData → ⊥) → IsLaidOut (tables_of world) g → out-Ground g ≡ Ground-F.Wrap w k → IsLaidOut (tables_of world) k
  unfolding some_part
  inside-Wrap g k w other laid e = record {
    over = entered-over g k (Ground-F.Wrap w k) laid e (Contains-append_left (argument_of w k) [] k (subst (λ xs. Contains xs k) (sym (argument-other w k other)) (0, omega arith, refl)));
    sound = second_false (has_cause (wrap w (part k))) (some_within has_cause (part k)) (ap has_no_layout (sym (wrapped-other (tables_of world) [] w k other)) ∙ level-sound g (Ground-F.Wrap w k) laid e);
  }

  -- a named type of a world has a definition
  pub def-there : (id : NamedId) (row : NamedRow) → slice_get world.named id.0 ≡ Some row → slice_get world.defs row.def.0 ≡ None → ⊥
  def-there id row at none = let form = row-in_form world id.0 row at in let absent = ap (λ d. is_row_of d row) none in cc

  -- a wrapper has the size of what it holds
  pub wrapped-size : (g k : Ground) (w : Wrapper) → (w ≡ wrapper.PhantomData → ⊥) → IsLaidOut (tables_of world) g → out-Ground g ≡ Ground-F.Wrap w k → size_of (part g) ≡ size_of (part k)
  unfolding layout_of
  wrapped-size g k w other laid e = ap size_of (level-of g (Ground-F.Wrap w k) laid e ∙ wrapped-other (tables_of world) [] w k other)

  -- a named type with a layout, by its row and its definition
  pub definition-of : (id : NamedId) (row : NamedRow) (def : Def) → IsLaidOut (tables_of world) (Named id) → slice_get world.named id.0 ≡ Some row → slice_get world.defs row.def.0 ≡ Some def
      → IsDefinition (tables_of world) id def row.types
  unfolding are_defs_in_form some_part
  definition-of id row def laid at of_def =
      let whole = named-level (tables_of world) id row def (written (tables_of world) (Named id) laid) at of_def in
      let shaped : has_its_types def.variants row.types ≡ true = ap (λ d. is_row_of d row) (sym of_def) ∙ row-in_form world id.0 row at in
      let variants = variants_of part def.variants row.types in
      let sound : some_variant has_cause variants ≡ false =
      second_false (has_cause (named world.profile id def.kind def.repr variants)) (some_variant has_cause variants) (ap has_no_layout (sym whole) ∙ laid.sound) in
      record {
        whole = whole;
        sound = laid.sound;
        in_form = list_all-at (is_def_in_form world.profile) world.defs row.def.0 def world.defs_in_form of_def;
        shaped = shaped;
        each = λ v gs at_v k g at_k. record {
          over = entered-over (Named id) g (Ground-F.Named id) laid (ground_is.outs-Named id)
              (Contains-append_left (row_parts (slice_get world.named id.0)) [] g (subst (λ r. Contains (row_parts r) g) (sym at) (contains-in row.types v gs g at_v (contains-at gs k g at_k))));
          sound = variants-sound part def.variants row.types shaped sound v gs at_v k g at_k;
        };
      }

-- ---- primitives

module _ (tables : Tables) (p : Primitive) where
  prim-level : expanded_in tables (Prim p) ≡ prim tables.profile p
  unfolding expanded_within
  prim-level = ap (level (expanded_within tables.profile 63 tables.defs tables.named) tables.profile tables.defs tables.named) (ground_is.outs-Prim p)

  pub prim-sized : size_of (expanded_in tables (Prim p)) ≡ prim_size tables.profile p
  unfolding layout_of
  prim-sized = ap size_of prim-level

  prim-whole : is_whole (expanded_in tables (Prim p)) ≡ true
  unfolding some_part
  prim-whole = ap is_whole prim-level

  -- a primitive has a layout in each world
  pub prim-laid_out : IsLaidOut tables (Prim p)
  unfolding is_type_over written_types
  prim-laid_out = record {
    over = both_true (list_all (λ h. is_head_in_form (length tables.named) (length tables.refs) (out-Ground h)) (Prim p ∷ [])) (is_whole (expanded_in tables (Prim p)))
        (both_true (is_head_in_form (length tables.named) (length tables.refs) (out-Ground (Prim p))) true (ap (is_head_in_form (length tables.named) (length tables.refs)) (ground_is.outs-Prim p)) refl) prim-whole;
    sound = ap has_no_layout prim-level ∙ sym (refused-exactly (prim tables.profile p)) ∙ ap is_some (sym (primitive-facts tables.profile p (prim_size tables.profile p) refl).refusal);
  }
