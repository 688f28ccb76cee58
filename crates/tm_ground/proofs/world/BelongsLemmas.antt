-- A world whose named types and references are in the order of their texts belongs to the file.
use Rattle.std.proofs.Common.{◌≡◌, ℕ, suc, ◌+◌, Bool, true, refl, sym, ap, subst, ◌∙◌, List, [], ◌∷◌, map, length, All, Some, slice_get, arith}
use Rattle.std.specs.List.{AllZip, range_with_len}
use Rattle.std.specs.Cmp.Lexicographic.{slice_cmp}
use Rattle.std.specs.List.Sorted.{IsSorted}
use Rattle.std.specs.Ordering.{nat_cmp}
use Rattle.std.proofs.lemmas.List.Elements.{All-contains}
use Rattle.std.proofs.lemmas.Slice.Zip.{AllZip-long}
use Rattle.tm_base.specs.declared.definition.NamedRow.{NamedRow}
use Rattle.tm_base.specs.declared.ground.Ground.{Ground}
use Rattle.tm_base.specs.declared.ground.Ground as ground_is
use Rattle.tm_base.specs.declared.world.World.{World}
use Rattle.tm_base.specs.Texts.{text_of}
use Rattle.tm_base.specs.Whole.{AreDistinct}
use Rattle.tm_base.specs.Worlds.{tables_of}
use Rattle.tm_names.specs.declared.resolved.Resolved.{Resolved}
use Rattle.tm_names.specs.ApartNames.{HasApartNames}
use Rattle.tm_names.specs.InForm.{IsInForm}
use Rattle.tm_ground.specs.Belongs.{AreInByteOrder, BelongsToFile, IsNamedRowOf, IsQuestionOf, IsRefRowOf, ListsAll, StandsFor, named_texts, ref_texts}
use Rattle.tm_ground.specs.Closed.{Closed, listed}
use Rattle.tm_ground.specs.ClosedTexts.{closed_text, AreInOrder}
use Rattle.tm_ground.specs.Closing.{AreFound}
use Rattle.tm_ground.specs.Limits.{is_named, is_ref, OccursAs}
use Rattle.tm_ground.specs.Numbered.{IsNumbered}
use Rattle.tm_ground.specs.Occurs.{field_types}
use Rattle.tm_ground.specs.Rows.{IsNamedRow, IsRefRow, IsAsk, IsWorldOf}
use Rattle.tm_ground.proofs.texts.ApartOccurring.{texts-apart}
use Rattle.tm_ground.proofs.finding.GrowLemmas.{contains-from_get}
use Rattle.tm_ground.proofs.numbers.NumberLemmas.{named-number, ref-number}
use Rattle.tm_ground.proofs.sizes.SmallLemmas.{occurring-short}
use Rattle.tm_ground.proofs.numbers.StandsLemmas.{stands}
use Rattle.tm_ground.proofs.texts.TextLemmas.{number-text}

-- what holds of each pair makes another fact hold of it
zip-weaken : {A B : Type 0} (R S : A → B → Type 0) → ((a : A) (b : B) → R a b → S a b) → (xs : List A) (ys : List B) → AllZip R xs ys → AllZip S xs ys
zip-weaken R S f [] [] h = tt
zip-weaken R S f [] (y ∷ ys) h = absurd h
zip-weaken R S f (x ∷ xs) [] h = absurd h
zip-weaken R S f (x ∷ xs) (y ∷ ys) h = (f x y h.0, zip-weaken R S f xs ys h.1)

-- what the places of a list give, where each gives what the item there does
by-places : {A X : Type 0} (f : ℕ → X) (g : A → X) (a : ℕ) (xs : List A) → ((k : ℕ) (x : A) → slice_get xs k ≡ Some x → f (a + k) ≡ g x) → map f (range_with_len a (length xs)) ≡ map g xs
by-places f g a [] h = refl
by-places f g a (x ∷ xs) h =
    let here : a + 0 ≡ a = omega arith in
    let first : f a ≡ g x = ap f (sym here) ∙ h 0 x refl in
    let others = by-places f g (a + 1) xs (λ k y e. ap f (shift k) ∙ h (suc k) y e) in
    rw (first, others) refl
  where
    shift : (k : ℕ) → a + 1 + k ≡ a + suc k
    shift k = omega arith

-- so it is from the first place on
pub places-texts : (f : ℕ → List ℕ) (g : Closed → List ℕ) (cs : List Closed) (n : ℕ) → n ≡ length cs → ((k : ℕ) (c : Closed) → slice_get cs k ≡ Some c → f k ≡ g c) → map f (range_with_len 0 n) ≡ map g cs
places-texts f g cs n count at =
    ap (λ m. map f (range_with_len 0 m)) count ∙ by-places f g 0 cs (λ k c e. let same : 0 + k ≡ k = omega arith in ap f same ∙ at k c e)

module _ (resolved : Resolved) (form : IsInForm resolved) (types refs : List Closed) (whole : AreFound resolved types refs) (world : World) (w : IsWorldOf resolved types refs world) where
  numbers-stand : (c : Closed) (g : Ground) → IsNumbered types refs c g → StandsFor world.named world.refs c g
  numbers-stand = stands resolved types refs world.named world.refs w.named w.ref_rows

  -- the texts of the types at the places of a list
  texts-are : (kind : Closed → Bool) (number : ℕ → Ground) (cs : List Closed) (n : ℕ) → n ≡ length cs → All (OccursAs kind resolved) cs
      → ((c : Closed) (k : ℕ) → kind c ≡ true → slice_get cs k ≡ Some c → IsNumbered types refs c (number k))
      → map (λ k. text_of (tables_of world) (number k)) (range_with_len 0 n) ≡ map (closed_text resolved) cs
  texts-are kind number cs n count each numbered =
      places-texts (λ k. text_of (tables_of world) (number k)) (closed_text resolved) cs n count (λ k c found.
      let o = All-contains (OccursAs kind resolved) cs c each (contains-from_get cs k c found) in
      number-text resolved types refs world w c (number k) (numbered c k o.of_kind found) (occurring-short resolved whole.small c o.occurs))

  named-texts-are : named_texts resolved world ≡ map (closed_text resolved) types
  named-texts-are = texts-are is_named (λ k. ground_is.Named (record { 0 = k })) types (length world.named) (AllZip-long _ types world.named w.named) whole.rows.all.each (named-number types refs)

  ref-texts-are : ref_texts resolved world ≡ map (closed_text resolved) refs
  ref-texts-are = texts-are is_ref (λ k. ground_is.Ref (record { 0 = k })) refs (length world.refs) (AllZip-long _ refs world.refs w.ref_rows) whole.refs.all.each (ref-number types refs)

  all-stand : (cs : List Closed) (gs : List Ground) → AllZip (IsNumbered types refs) cs gs → AllZip (StandsFor world.named world.refs) cs gs
  all-stand = zip-weaken (IsNumbered types refs) (StandsFor world.named world.refs) numbers-stand

  named-row-of : (c : Closed) (row : NamedRow) → IsNamedRow types refs resolved c row → IsNamedRowOf resolved world c row
  named-row-of c row r = record {
    args = r.args;
    type = r.type;
    given = all-stand (listed r.args) row.args r.given;
    fields = zip-weaken (AllZip (IsNumbered types refs)) (AllZip (StandsFor world.named world.refs)) all-stand (field_types resolved row.def row.regions (listed r.args)) row.types r.fields;
  }

  module _ (names : HasApartNames resolved) where
    -- texts of distinct types of a kind, in order
    in-byte-order : (kind : Closed → Bool) (cs : List Closed) (texts : List (List ℕ)) → texts ≡ map (closed_text resolved) cs → ListsAll (OccursAs kind resolved) cs → AreInOrder resolved cs → AreInByteOrder texts
    in-byte-order kind cs texts same all ordered = record {
      sorted = subst (λ ts. IsSorted (slice_cmp nat_cmp) ts) (sym same) ordered;
      distinct = subst (λ ts. AreDistinct ts) (sym same) (texts-apart resolved form names cs all.distinct (λ c i. (All-contains (OccursAs kind resolved) cs c all.each i).occurs));
    }

    pub belongs : AreInOrder resolved types → AreInOrder resolved refs → BelongsToFile resolved world
    belongs named_ordered refs_ordered = record {
      profile = w.profile;
      defs = w.defs;
      regions = w.regions;
      bounds = w.bounds;
      questions = zip-weaken (IsAsk types refs) (IsQuestionOf resolved world) (λ asked ask r. record { src = numbers-stand _ _ r.src; dst = numbers-stand _ _ r.dst; assume = r.assume }) resolved.asks world.questions w.questions;
      small = whole.small;
      named_types = types;
      named = whole.rows.all;
      named_rows = zip-weaken (IsNamedRow types refs resolved) (IsNamedRowOf resolved world) named-row-of types world.named w.named;
      named_in_order = in-byte-order is_named types (named_texts resolved world) named-texts-are whole.rows.all named_ordered;
      ref_types = refs;
      refs = whole.refs.all;
      ref_rows = zip-weaken (IsRefRow types refs) (IsRefRowOf resolved world) (λ c row r. record { pointee = r.pointee; type = r.type; points = numbers-stand _ _ r.numbered }) refs world.refs w.ref_rows;
      refs_in_order = in-byte-order is_ref refs (ref_texts resolved world) ref-texts-are whole.refs.all refs_ordered;
    }
