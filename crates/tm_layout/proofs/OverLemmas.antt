-- What a type over a world reaches is over the world too.
use Rattle.std.proofs.Common.{◌≡◌, ℕ, zero, suc, ◌<◌, ltb-true, refl, sym, ◌∙◌, ap, subst, ⊎_elim, Bool, true, false, ◌&&◌, ◌||◌, not, List, [], ◌∷◌, ◌++◌, map, length, Some, None, slice_get, Contains, arith}
use Rattle.std.specs.List.{list_all, flat_map, range_with_len}
use Rattle.std.proofs.lemmas.List.Elements.{Contains-append_cases}
use Rattle.std.proofs.lemmas.List.Folds.{list_all-append, list_all-map}
use Rattle.tm_base.specs.declared.ground.Ground.{Ground, out-Ground, roll-Ground, roll-out-Ground, Prim, Never, Unit as the_unit, Tuple, Array, Wrap, Tuple', Array', Named, NonZero, Wrap', Ref}
use Rattle.tm_base.specs.declared.ground.Ground.TheOpen.{Ground-F}
use Rattle.tm_base.specs.declared.ground.Ground.TheVariants.{rolls-Tuple, rolls-Array, rolls-Wrap}
use Rattle.tm_base.specs.declared.ground.NamedId.{NamedId}
use Rattle.tm_base.specs.declared.ground.Wrapper.{Wrapper}
use Rattle.tm_base.specs.declared.ground.Wrapper.TheVariants as wrapper
use Rattle.tm_base.specs.declared.world.World.{World}
use Rattle.tm_base.specs.Expanded.{Expanded, tuple, array, wrap, elements, expanded, level}
use Rattle.tm_base.specs.Parts.{some_part, some_field, some_within, is_too_deep, is_whole}
use Rattle.tm_base.specs.Reaches.{Enters, Reaches, argument_of, row_parts, row_pointee, parts_within, pointees_within}
use Rattle.tm_base.specs.Spelled.{ends, spelled}
use Rattle.tm_base.specs.Whole.{written_types, is_head_in_form, is_type_over, is_type_in_form, are_types_in_form}
use Rattle.tm_base.specs.Worlds.{tables_of, IsTypeOver}
use Rattle.tm_base.proofs.ExpandedLemmas.{expanded-level}
use Rattle.tm_base.proofs.GroundLemmas.{written_types-Tuple, written_types-Array, written_types-Wrap}
use Rattle.tm_base.proofs.JudgedLemmas.{ChainIn-keeps, Contains-none, Contains-one}
use Rattle.tm_base.proofs.WorldLemmas.{list_all-at}

both_pass : (a b : Bool) → (a && b) ≡ true → (a ≡ true) × (b ≡ true)
both_pass true b h = (refl, h)
both_pass false b h = cc

pass_both : (a b : Bool) → a ≡ true → b ≡ true → (a && b) ≡ true
pass_both true b h k = k
pass_both false b h k = cc

neither : (a b : Bool) → (a || b) ≡ false → (a ≡ false) × (b ≡ false)
neither true b h = cc
neither false b h = (refl, h)

not_true : (b : Bool) → not b ≡ true → b ≡ false
not_true true h = cc
not_true false h = refl

not_false : (b : Bool) → b ≡ false → not b ≡ true
not_false b h = rw h refl

-- what passes in all items of a list passes in one
list_all-in : {X : Type 0} (p : X → Bool) (xs : List X) (x : X) → list_all p xs ≡ true → Contains xs x → p x ≡ true
list_all-in p [] x h at = absurd (omega (arith, at.1))
list_all-in p (y ∷ ys) x h (zero, below, e) = ap p (sym e) ∙ (both_pass (p y) (list_all p ys) h).0
list_all-in p (y ∷ ys) x h (suc k, below, e) = list_all-in p ys x (both_pass (p y) (list_all p ys) h).1 (k, omega arith, e)

list_all-flat_map : {X Y : Type 0} (p : Y → Bool) (f : X → List Y) (xs : List X) → list_all p (flat_map f xs) ≡ list_all (λ x. list_all p (f x)) xs
list_all-flat_map p f [] = refl
list_all-flat_map p f (x ∷ xs) = list_all-append p (f x) (flat_map f xs) ∙ ap (λ b. list_all p (f x) && b) (list_all-flat_map p f xs)

list_all-weaker : {X : Type 0} (p q : X → Bool) → ((x : X) → p x ≡ true → q x ≡ true) → (xs : List X) → list_all p xs ≡ true → list_all q xs ≡ true
list_all-weaker p q each [] h = refl
list_all-weaker p q each (x ∷ xs) h =
    let both = both_pass (p x) (list_all p xs) h in
    pass_both (q x) (list_all q xs) (each x both.0) (list_all-weaker p q each xs both.1)

-- a type is the first of those that are written in it
written-first : (g : Ground) → Contains (written_types g) g
unfolding written_types
written-first (Tuple' shape row) = (0, omega arith, refl)
written-first (Array' shape row n) = (0, omega arith, refl)
written-first (Wrap' w shape row) = (0, omega arith, refl)
written-first (Prim q) = (0, omega arith, refl)
written-first Never = (0, omega arith, refl)
written-first the_unit = (0, omega arith, refl)
written-first (Named id) = (0, omega arith, refl)
written-first (NonZero q) = (0, omega arith, refl)
written-first (Ref r) = (0, omega arith, refl)

-- no part is past the greatest depth
abbrev IsDeepEnough : Expanded → Type 0
IsDeepEnough t = some_within is_too_deep t ≡ false

elements-deep : (part : Ground → Expanded) (gs : List Ground) (h : Ground) → some_field is_too_deep (elements part gs) ≡ false → Contains gs h → IsDeepEnough (part h)
unfolding some_part
elements-deep part [] h e at = absurd (Contains-none h at)
elements-deep part (g ∷ gs) h e (zero, below, is) =
    subst (λ x. IsDeepEnough (part x)) is (neither (some_within is_too_deep (part g)) (some_field is_too_deep (elements part gs)) e).0
elements-deep part (g ∷ gs) h e (suc k, below, is) =
    elements-deep part gs h (neither (some_within is_too_deep (part g)) (some_field is_too_deep (elements part gs)) e).1 (k, omega arith, is)

module _ (world : World) where
  abbrev head : Ground → Bool
  head h = is_head_in_form (length world.named) (length world.refs) (out-Ground h)

  abbrev formed : Ground → Bool
  formed g = list_all head (written_types g)

  abbrev part : Ground → Expanded
  part = expanded world.profile world.defs world.named

  abbrev passes : Ground → Bool
  passes = is_type_in_form world.profile world.defs world.named world.refs

  abbrev over : Ground → Bool
  over = is_type_over world.profile world.defs world.named world.refs

  over-from : (g : Ground) → formed g ≡ true → is_whole (part g) ≡ true → over g ≡ true
  unfolding is_type_over
  over-from g f w = pass_both (formed g) (is_whole (part g)) f w

  over-parts : (g : Ground) → over g ≡ true → (formed g ≡ true) × (is_whole (part g) ≡ true)
  unfolding is_type_over
  over-parts g h = both_pass (formed g) (is_whole (part g)) h

  passes-parts : (g : Ground) → passes g ≡ true → (head g ≡ true) × (is_whole (part g) ≡ true)
  passes-parts g h = both_pass (head g) (is_whole (part g)) (both_pass (head g && is_whole (part g)) (ends (spelled world.named world.refs g)) h).0

  written-over : (g : Ground) → list_all passes (written_types g) ≡ true → over g ≡ true
  written-over g h =
      over-from g
      (list_all-weaker passes head (λ k p. (passes-parts k p).0) (written_types g) h)
      (passes-parts g (list_all-in passes (written_types g) g h (written-first g))).1

  abbrev arguments : List Ground
  arguments = flat_map (λ row. row.args) world.named

  abbrev fields : List Ground
  fields = flat_map (λ row. flat_map (λ types. types) row.types) world.named

  abbrev pointees : List Ground
  pointees = map (λ row. row.pointee) world.refs

  abbrev asked : List Ground
  asked = flat_map (λ ask. ask.src ∷ ask.dst ∷ []) world.questions

  abbrev names : List Ground
  names = map (λ k. Named (record { 0 = k })) (range_with_len 0 (length world.named))

  all_written : list_all passes (names ++ flat_map written_types (arguments ++ fields ++ pointees ++ asked)) ≡ true
  unfolding are_types_in_form
  all_written = world.types_in_form

  all_over : list_all over (arguments ++ fields ++ pointees ++ asked) ≡ true
  all_over =
      list_all-weaker (λ g. list_all passes (written_types g)) over written-over (arguments ++ fields ++ pointees ++ asked)
      (sym (list_all-flat_map passes written_types (arguments ++ fields ++ pointees ++ asked))
      ∙ (both_pass (list_all passes names) _ (sym (list_all-append passes names _) ∙ all_written)).1)

  rows_over : (list_all over fields ≡ true) × (list_all over pointees ≡ true)
  rows_over =
      let unasked = both_pass (list_all over (arguments ++ fields ++ pointees)) (list_all over asked) (sym (list_all-append over (arguments ++ fields ++ pointees) asked) ∙ all_over) in
      let parts = both_pass (list_all over (arguments ++ fields)) (list_all over pointees) (sym (list_all-append over (arguments ++ fields) pointees) ∙ unasked.0) in
      let held = both_pass (list_all over arguments) (list_all over fields) (sym (list_all-append over arguments fields) ∙ parts.0) in
      (held.1, parts.1)

  -- the types of a named type's fields are over the world
  field-over : (k : ℕ) (h : Ground) → Contains (row_parts (slice_get world.named k)) h → over h ≡ true
  field-over k h at = elim (slice_get world.named k) as (λ row. slice_get world.named k ≡ row → Contains (row_parts row) h → over h ≡ true) [
    | None ↦ λ e in_it. absurd (Contains-none h in_it)
    | Some row ↦ λ e in_it.
        list_all-in over (flat_map (λ types. types) row.types) h
        (list_all-at (λ one. list_all over (flat_map (λ types. types) one.types)) world.named k row
        (sym (list_all-flat_map over (λ one. flat_map (λ types. types) one.types) world.named) ∙ rows_over.0) e) in_it
  ] refl at

  -- and so is what a reference points to
  pointee-over : (k : ℕ) (h : Ground) → Contains (row_pointee (slice_get world.refs k)) h → over h ≡ true
  pointee-over k h at = elim (slice_get world.refs k) as (λ row. slice_get world.refs k ≡ row → Contains (row_pointee row) h → over h ≡ true) [
    | None ↦ λ e in_it. absurd (Contains-none h in_it)
    | Some row ↦ λ e in_it.
        subst (λ x. over x ≡ true) (Contains-one row.pointee h in_it)
        (list_all-at (λ one. over one.pointee) world.refs k row (sym (list_all-map over (λ one. one.pointee) world.refs) ∙ rows_over.1) e)
  ] refl at

  without_nil : (gs : List Ground) (h : Ground) → Contains (gs ++ []) h → Contains gs h
  without_nil gs h at = ⊎_elim (λ in_it. in_it) (λ none. absurd (Contains-none h none)) (Contains-append_cases gs [] h at)

  -- what a type holds by value, where that is one type
  one-formed : (g k : Ground) → written_types g ≡ g ∷ written_types k → formed g ≡ true → formed k ≡ true
  one-formed g k e f = (both_pass (head g) (formed k) (sym (ap (list_all head) e) ∙ f)).1

  one-whole : (g k : Ground) (w : Wrapper) → part g ≡ wrap w (part k) → is_whole (part g) ≡ true → is_whole (part k) ≡ true
  unfolding some_part
  one-whole g k w e h = ap is_whole (sym e) ∙ h

  element-whole : (g k : Ground) (n : ℕ) → part g ≡ array (part k) n → is_whole (part g) ≡ true → is_whole (part k) ≡ true
  unfolding some_part
  element-whole g k n e h = ap is_whole (sym e) ∙ h

  members-whole : (g : Ground) (gs : List Ground) (h : Ground) → part g ≡ tuple (elements part gs) → is_whole (part g) ≡ true → Contains gs h → is_whole (part h) ≡ true
  unfolding some_part
  members-whole g gs h e w at =
      not_false (some_within is_too_deep (part h)) (elements-deep part gs h (not_true (some_field is_too_deep (elements part gs)) (ap is_whole (sym e) ∙ w)) at)

  argument-over : (g k h : Ground) (w : Wrapper) → out-Ground g ≡ Ground-F.Wrap w k → over g ≡ true → Contains (argument_of w k) h → over h ≡ true
  argument-over g k h w e o at = by w refl at where
    both : (formed g ≡ true) × (is_whole (part g) ≡ true)
    both = over-parts g o

    same : g ≡ Wrap w k
    same = sym (roll-out-Ground g) ∙ ap roll-Ground e ∙ rolls-Wrap w k

    k-formed : formed k ≡ true
    k-formed = one-formed g k (ap written_types same ∙ written_types-Wrap w k ∙ ap (λ x. x ∷ written_types k) (sym same)) both.0

    leveled : part g ≡ level part world.profile world.defs world.named (Ground-F.Wrap w k)
    leveled = expanded-level world.profile world.defs world.named g both.1 ∙ ap (level part world.profile world.defs world.named) e

    held : part g ≡ wrap w (part k) → Contains (k ∷ []) h → over h ≡ true
    held is in_it = subst (λ x. over x ≡ true) (Contains-one k h in_it) (over-from k k-formed (one-whole g k w is both.1))

    by : (v : Wrapper) → w ≡ v → Contains (argument_of v k) h → over h ≡ true
    by wrapper.PhantomData same in_it = absurd (Contains-none h in_it)
    by wrapper.Option same in_it = held (leveled ∙ rw same refl) in_it
    by wrapper.MaybeUninit same in_it = held (leveled ∙ rw same refl) in_it
    by wrapper.ManuallyDrop same in_it = held (leveled ∙ rw same refl) in_it
    by wrapper.Wrapping same in_it = held (leveled ∙ rw same refl) in_it
    by wrapper.Cell same in_it = held (leveled ∙ rw same refl) in_it
    by wrapper.UnsafeCell same in_it = held (leveled ∙ rw same refl) in_it

  elements-over : (g h : Ground) (gs : List Ground) → out-Ground g ≡ Ground-F.Tuple gs → over g ≡ true → Contains gs h → over h ≡ true
  elements-over g h gs e o at =
      let both = over-parts g o in
      let same : g ≡ Tuple gs = sym (roll-out-Ground g) ∙ ap roll-Ground e ∙ rolls-Tuple gs in
      let all : list_all head (Tuple gs ∷ flat_map written_types gs) ≡ true = sym (ap (list_all head) (ap written_types same ∙ written_types-Tuple gs)) ∙ both.0 in
      let each : list_all formed gs ≡ true = sym (list_all-flat_map head written_types gs) ∙ (both_pass (head (Tuple gs)) (list_all head (flat_map written_types gs)) all).1 in
      over-from h (list_all-in formed gs h each at)
      (members-whole g gs h (expanded-level world.profile world.defs world.named g both.1 ∙ ap (level part world.profile world.defs world.named) e) both.1 at)

  element-over : (g k h : Ground) (n : ℕ) → out-Ground g ≡ Ground-F.Array k n → over g ≡ true → Contains (k ∷ []) h → over h ≡ true
  element-over g k h n e o at =
      let both = over-parts g o in
      let same : g ≡ Array k n = sym (roll-out-Ground g) ∙ ap roll-Ground e ∙ rolls-Array k n in
      let f = one-formed g k (ap written_types same ∙ written_types-Array k n ∙ ap (λ x. x ∷ written_types k) (sym same)) both.0 in
      let w = element-whole g k n (expanded-level world.profile world.defs world.named g both.1 ∙ ap (level part world.profile world.defs world.named) e) both.1 in
      subst (λ x. over x ≡ true) (Contains-one k h at) (over-from k f w)

  step-over : (g h : Ground) (x : Ground-F Ground) → out-Ground g ≡ x → over g ≡ true → Contains (parts_within world.named x ++ pointees_within world.refs x) h → over h ≡ true
  step-over g h (Ground-F.Prim p) e o at = absurd (Contains-none h at)
  step-over g h Ground-F.Never e o at = absurd (Contains-none h at)
  step-over g h Ground-F.Unit e o at = absurd (Contains-none h at)
  step-over g h (Ground-F.Tuple gs) e o at = elements-over g h gs e o (without_nil gs h at)
  step-over g h (Ground-F.Array k n) e o at = element-over g k h n e o at
  step-over g h (Ground-F.Named id) e o at = field-over id.0 h (without_nil (row_parts (slice_get world.named id.0)) h at)
  step-over g h (Ground-F.NonZero p) e o at = absurd (Contains-none h at)
  step-over g h (Ground-F.Wrap w k) e o at = argument-over g k h w e o (without_nil (argument_of w k) h at)
  step-over g h (Ground-F.Ref r) e o at = pointee-over r.0 h at

  -- what is reached is over the world
  pub reached-over : (g h : Ground) → IsTypeOver (tables_of world) g → Reaches (tables_of world) g h → IsTypeOver (tables_of world) h
  reached-over g h o (n, way) =
      ChainIn-keeps (Enters (tables_of world)) (λ k. over k ≡ true) (λ a b p step. step-over a b (out-Ground a) refl p step) n g h o way

  -- the number of a named type over the world is one of its named types'
  pub named-within : (g : Ground) (id : NamedId) → out-Ground g ≡ Ground-F.Named id → IsTypeOver (tables_of world) g → id.0 < length world.named
  named-within g id e o =
      let first = list_all-in head (written_types g) g (over-parts g o).0 (written-first g) in
      ltb-true id.0 (length world.named) (sym (ap (is_head_in_form (length world.named) (length world.refs)) e) ∙ first)
