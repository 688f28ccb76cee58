-- What each world is known to hold: its types are in form.
use Rattle.std.proofs.Common.{◌≡◌, ℕ, zero, suc, ◌+◌, ◌<◌, refl, sym, ◌∙◌, ap, Bool, true, false, ◌&&◌, IsTrue, List, [], ◌∷◌, ◌++◌, map, length, Some, slice_get, arith, add-zero, zero-add}
use Rattle.std.specs.List.{list_all, flat_map, range_with_len}
use Rattle.std.proofs.lemmas.List.Folds.{list_all-append}
use Rattle.tm_base.specs.declared.ask.Ask.{Ask}
use Rattle.tm_base.specs.declared.definition.NamedRow.{NamedRow}
use Rattle.tm_base.specs.declared.definition.RefRow.{RefRow}
use Rattle.tm_base.specs.declared.ground.Ground.{Ground, out-Ground, Prim, Never, Unit as the_unit, Tuple', Array', Named, NonZero, Wrap', Ref}
use Rattle.tm_base.specs.declared.world.World.{World}
use Rattle.tm_base.specs.Expanded.{expanded}
use Rattle.tm_base.specs.Parts.{is_whole}
use Rattle.tm_base.specs.Spelled.{ends, spelled}
use Rattle.tm_base.specs.Whole.{written_types, all_types, is_head_in_form, is_type_in_form, are_types_in_form}

left_true : (a b : Bool) → (a && b) ≡ true → a ≡ true
left_true true b h = refl
left_true false b h = cc

right_true : (a b : Bool) → (a && b) ≡ true → b ≡ true
right_true true b h = h
right_true false b h = cc

-- what passes in all items passes in one
pub list_all-at : {X : Type 0} (p : X → Bool) (xs : List X) (k : ℕ) (x : X) → list_all p xs ≡ true → slice_get xs k ≡ Some x → p x ≡ true
list_all-at p [] k x h e = cc
list_all-at p (y ∷ ys) zero x h e =
    let same : y ≡ x = cc in
    ap p (sym same) ∙ left_true (p y) (list_all p ys) h
list_all-at p (y ∷ ys) (suc k) x h e = list_all-at p ys k x (right_true (p y) (list_all p ys) h) e

pub list_all-map : {X Y : Type 0} (p : Y → Bool) (f : X → Y) (xs : List X) → list_all p (map f xs) ≡ list_all (λ x. p (f x)) xs
list_all-map p f [] = refl
list_all-map p f (x ∷ xs) = ap (λ b. p (f x) && b) (list_all-map p f xs)

pub list_all-flat_map : {X Y : Type 0} (p : Y → Bool) (f : X → List Y) (xs : List X) → list_all p (flat_map f xs) ≡ list_all (λ x. list_all p (f x)) xs
list_all-flat_map p f [] = refl
list_all-flat_map p f (x ∷ xs) = list_all-append p (f x) (flat_map f xs) ∙ ap (λ b. list_all p (f x) && b) (list_all-flat_map p f xs)

range-get : (a n k : ℕ) → k < n → slice_get (range_with_len a n) k ≡ Some (a + k)
range-get a zero k h = absurd (omega arith)
range-get a (suc n) zero h = ap (λ (m : ℕ). Some m) (sym (add-zero a))
range-get a (suc n) (suc k) h =
    let next : a + 1 + k ≡ a + suc k = omega arith in
    range-get (a + 1) n k (omega arith) ∙ ap (λ (m : ℕ). Some m) next

-- a type is the first of those that are written in it
written-itself : (p : Ground → Bool) (g : Ground) → list_all p (written_types g) ≡ true → p g ≡ true
unfolding written_types
written-itself p (Tuple' shape row) h = left_true (p (Tuple' shape row)) _ h
written-itself p (Array' shape row n) h = left_true (p (Array' shape row n)) _ h
written-itself p (Wrap' w shape row) h = left_true (p (Wrap' w shape row)) _ h
written-itself p (Prim q) h = left_true (p (Prim q)) true h
written-itself p Never h = left_true (p Never) true h
written-itself p the_unit h = left_true (p the_unit) true h
written-itself p (Named id) h = left_true (p (Named id)) true h
written-itself p (NonZero q) h = left_true (p (NonZero q)) true h
written-itself p (Ref r) h = left_true (p (Ref r)) true h

module _ (world : World) where
  -- the test that each type of the world passes
  abbrev pub passes : Ground → Bool
  passes = is_type_in_form world.profile world.defs world.named world.refs

  abbrev names : List Ground
  names = map (λ k. Named (record { 0 = k })) (range_with_len 0 (length world.named))

  abbrev given : List Ground
  given = flat_map (λ row. row.args) world.named

  abbrev fields : List Ground
  fields = flat_map (λ row. flat_map (λ types. types) row.types) world.named

  abbrev pointees : List Ground
  pointees = map (λ row. row.pointee) world.refs

  abbrev asked : List Ground
  asked = flat_map (λ ask. ask.src ∷ ask.dst ∷ []) world.questions

  all-pass : list_all passes (all_types world.named world.refs world.questions) ≡ true
  unfolding are_types_in_form
  all-pass = world.types_in_form

  names-pass : list_all passes names ≡ true
  names-pass = left_true (list_all passes names) _ (sym (list_all-append passes names _) ∙ all-pass)

  written-pass : list_all (λ g. list_all passes (written_types g)) (given ++ fields ++ pointees ++ asked) ≡ true
  written-pass =
      sym (list_all-flat_map passes written_types (given ++ fields ++ pointees ++ asked))
      ∙ right_true (list_all passes names) _ (sym (list_all-append passes names _) ∙ all-pass)

  -- each named type of a world is in form
  pub named-in_form : (k : ℕ) → k < length world.named → IsTrue (passes (Named (record { 0 = k })))
  named-in_form k h =
      list_all-at (λ n. passes (Named (record { 0 = n }))) (range_with_len 0 (length world.named)) k k
      (sym (list_all-map passes (λ n. Named (record { 0 = n })) (range_with_len 0 (length world.named))) ∙ names-pass)
      (range-get 0 (length world.named) k h ∙ ap (λ (m : ℕ). Some m) (zero-add k))

  -- and so is all that is written in a type
  abbrev all_pass : Ground → Bool
  all_pass g = list_all passes (written_types g)

  abbrev in_rows : List Ground
  in_rows = given ++ fields

  before_asked : list_all all_pass (in_rows ++ pointees) ≡ true
  before_asked = left_true (list_all all_pass (in_rows ++ pointees)) (list_all all_pass asked) (sym (list_all-append all_pass (in_rows ++ pointees) asked) ∙ written-pass)

  in_rows-pass : list_all all_pass in_rows ≡ true
  in_rows-pass = left_true (list_all all_pass in_rows) (list_all all_pass pointees) (sym (list_all-append all_pass in_rows pointees) ∙ before_asked)

  given-pass : list_all all_pass given ≡ true
  given-pass = left_true (list_all all_pass given) (list_all all_pass fields) (sym (list_all-append all_pass given fields) ∙ in_rows-pass)

  fields-pass : list_all all_pass fields ≡ true
  fields-pass = right_true (list_all all_pass given) (list_all all_pass fields) (sym (list_all-append all_pass given fields) ∙ in_rows-pass)

  pointees-pass : list_all all_pass pointees ≡ true
  pointees-pass = right_true (list_all all_pass in_rows) (list_all all_pass pointees) (sym (list_all-append all_pass in_rows pointees) ∙ before_asked)

  asked-pass : list_all all_pass asked ≡ true
  asked-pass = right_true (list_all all_pass (in_rows ++ pointees)) (list_all all_pass asked) (sym (list_all-append all_pass (in_rows ++ pointees) asked) ∙ written-pass)

  -- each pointee of a world is in form
  pub pointee-in_form : (r : ℕ) (row : RefRow) → slice_get world.refs r ≡ Some row → IsTrue (passes row.pointee)
  pointee-in_form r row e =
      written-itself passes row.pointee
      (list_all-at (λ one. all_pass one.pointee) world.refs r row (sym (list_all-map all_pass (λ one. one.pointee) world.refs) ∙ pointees-pass) e)

  -- each argument of a named type is in form
  pub argument-in_form : (k place : ℕ) (row : NamedRow) (g : Ground) → slice_get world.named k ≡ Some row → slice_get row.args place ≡ Some g → IsTrue (passes g)
  argument-in_form k place row g at_row at_place =
      let in_row = list_all-at (λ one. list_all all_pass one.args) world.named k row (sym (list_all-flat_map all_pass (λ one. one.args) world.named) ∙ given-pass) at_row in
      written-itself passes g (list_all-at all_pass row.args place g in_row at_place)

  -- each field's type of a named type is in form
  pub field-in_form : (k v f : ℕ) (row : NamedRow) (types : List Ground) (g : Ground)
      → slice_get world.named k ≡ Some row → slice_get row.types v ≡ Some types → slice_get types f ≡ Some g → IsTrue (passes g)
  field-in_form k v f row types g at_row at_variant at_field =
      let in_row = list_all-at (λ one. list_all all_pass (flat_map (λ gs. gs) one.types)) world.named k row
      (sym (list_all-flat_map all_pass (λ one. flat_map (λ gs. gs) one.types) world.named) ∙ fields-pass) at_row in
      let in_variant = list_all-at (list_all all_pass) row.types v types (sym (list_all-flat_map all_pass (λ gs. gs) row.types) ∙ in_row) at_variant in
      written-itself passes g (list_all-at all_pass types f g in_variant at_field)

  -- both types of each question are in form
  pub question-in_form : (k : ℕ) (ask : Ask) → slice_get world.questions k ≡ Some ask → IsTrue (passes ask.src) × IsTrue (passes ask.dst)
  question-in_form k ask e =
      let both = list_all-at (λ one. list_all all_pass (one.src ∷ one.dst ∷ [])) world.questions k ask
      (sym (list_all-flat_map all_pass (λ one. one.src ∷ one.dst ∷ []) world.questions) ∙ asked-pass) e in (
        written-itself passes ask.src (left_true (all_pass ask.src) (all_pass ask.dst && true) both),
        written-itself passes ask.dst (left_true (all_pass ask.dst) true (right_true (all_pass ask.src) (all_pass ask.dst && true) both)),
      )

  -- a type that passes is whole
  pub passes-whole : (g : Ground) → IsTrue (passes g) → IsTrue (is_whole (expanded world.profile world.defs world.named g))
  passes-whole g h = right_true (is_head_in_form (length world.named) (length world.refs) (out-Ground g)) (is_whole (expanded world.profile world.defs world.named g))
      (left_true (is_head_in_form (length world.named) (length world.refs) (out-Ground g) && is_whole (expanded world.profile world.defs world.named g)) (ends (spelled world.named world.refs g)) h)
