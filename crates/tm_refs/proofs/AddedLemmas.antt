-- Leaves that are added to a row, and the table of rows.
use Rattle.std.proofs.Common.{◌≡◌, ℕ, ◌+◌, ◌<◌, ◌≤◌, ◌⊎◌, inl, inr, refl, sym, ◌∙◌, ap, subst, Bool, true, false, ◌||◌, List, [], ◌∷◌, ◌++◌, length, replicate, take, get_or, Some, slice_get, slice_index_or, slice_set, arith}
use Rattle.std.specs.Prelude.{◌==◌}
use Rattle.std.specs.List.{list_any}
use Rattle.std.proofs.lemmas.Bool.{cases_eq, eq-eqb, ne_eqb, or_right, cases_lt}
use Rattle.std.proofs.lemmas.Grind.{get_or-set_at}
use Rattle.std.proofs.lemmas.List.{get_or-replicate, get_or-set_other, get_or_past, take_all}
use Rattle.std.proofs.lemmas.List.Folds.{list_any_more}
use Rattle.std.proofs.lemmas.Option.{slice_get_past}
use Rattle.tm_base.specs.declared.cell.RefId.{RefId}
use Rattle.tm_base.specs.declared.definition.RefRow.{RefRow}
use Rattle.tm_base.specs.declared.ground.Ground.{Prim}
use Rattle.tm_base.specs.Tables.{Tables}
use Rattle.tm_refs.specs.Leaves.{AreAdded, AreLeavesOf, leads_in, leaf_of}
use Rattle.tm_refs.specs.Looks.{leads_to, row_leads_to}
use Rattle.tm_refs.proofs.FirstRowLemmas.{get_or-append_left, last}

pub or-false : (a : Bool) → (a || false) ≡ a
or-false true = refl
or-false false = refl

or-assoc : (a b c : Bool) → ((a || b) || c) ≡ (a || (b || c))
or-assoc true b c = refl
or-assoc false b c = refl

pub added-none : (f : ℕ → Bool) (row : List Bool) → ((x : ℕ) → f x ≡ false) → AreAdded f row row
added-none f row none = record { each = λ x. sym (ap (λ (b : Bool). slice_index_or row x false || b) (none x) ∙ or-false (slice_index_or row x false)) }

pub added-same : (f g : ℕ → Bool) (before after : List Bool) → ((x : ℕ) → f x ≡ g x) → AreAdded f before after → AreAdded g before after
added-same f g before after same added = record { each = λ x. added.each x ∙ ap (λ (b : Bool). slice_index_or before x false || b) (same x) }

pub added-more : (f g h : ℕ → Bool) (a b c : List Bool) → ((x : ℕ) → h x ≡ (f x || g x)) → AreAdded f a b → AreAdded g b c → AreAdded h a c
added-more f g h a b c same first second = record {
  each =
      λ x. second.each x
      ∙ (ap (λ (u : Bool). u || g x) (first.each x)
      ∙ (or-assoc (slice_index_or a x false) (f x) (g x) ∙ ap (λ (u : Bool). slice_index_or a x false || u) (sym (same x))));
}

-- one leaf is marked
pub added-one : (row : List Bool) (k : ℕ) → k < length row → AreAdded (λ x. k == x) row (slice_set row k true)
added-one row k below = record { each = λ x. go x (cases_eq x k) } where
  go : (x : ℕ) → (x ≡ k) ⊎ (x ≡ k → ⊥) → slice_index_or (slice_set row k true) x false ≡ (slice_index_or row x false || (k == x))
  go x (inl e) = get_or-set_at row k x true false e below ∙ sym (or_right (slice_index_or row x false) (k == x) (eq-eqb k x (sym e)))
  go x (inr ne) =
      get_or-set_other row k x true false ne
      ∙ sym (ap (λ (b : Bool). slice_index_or row x false || b) (ne_eqb k x (λ e. ne (sym e))) ∙ or-false (slice_index_or row x false))

pub any-more : {X : Type 0} (p : X → ℕ → Bool) (xs : List X) (i : ℕ) (d : X) → i < length xs → (x : ℕ) → list_any (λ y. p y x) (take (i + 1) xs) ≡ (list_any (λ y. p y x) (take i xs) || p (get_or xs i d) x)
any-more p xs i d below x = list_any_more (λ y. p y x) xs i d below

pub any-all : {X : Type 0} (p : X → ℕ → Bool) (xs : List X) (i : ℕ) → length xs ≤ i → (x : ℕ) → list_any (λ y. p y x) (take i xs) ≡ list_any (λ y. p y x) xs
any-all p xs i past x = ap (list_any (λ y. p y x)) (take_all i xs past)

pub blank : (x : ℕ) → slice_index_or (replicate 64 false) x false ≡ false
blank x = go (cases_lt x 64) where
  go : (x < 64) ⊎ (64 ≤ x) → slice_index_or (replicate 64 false) x false ≡ false
  go (inl below) = get_or-replicate 64 x false false below
  go (inr past) = get_or_past (replicate 64 false) x false past

module _ (tables : Tables) where
  abbrev pub AreLeavesUntil : ℕ → List (List Bool) → Type 0
  AreLeavesUntil i rows = (r x : RefId) → r.0 < i → leads_in rows r x ≡ leads_to tables r x

  -- the row of one pointee more
  pub leaves-more : (i : ℕ) (row : RefRow) (old new : List (List Bool)) (leaves : List Bool) → slice_get tables.refs i ≡ Some row → length old ≡ i → new ≡ old ++ leaves ∷ []
      → ((x : ℕ) → slice_index_or leaves x false ≡ leaf_of tables row.pointee x) → AreLeavesUntil i old → AreLeavesUntil (i + 1) new
  leaves-more i row old new leaves at count pushed exact until r x below = go (cases_lt r.0 i) where
    go : (r.0 < i) ⊎ (i ≤ r.0) → leads_in new r x ≡ leads_to tables r x
    go (inl less) =
        ap (λ (line : List Bool). slice_index_or line x.0 false) (ap (λ rs. slice_index_or rs r.0 []) pushed ∙ get_or-append_left old (leaves ∷ []) r.0 [] (omega arith)) ∙ until r x less
    go (inr past) =
        let here : i ≡ r.0 = omega arith in
        ap (λ (line : List Bool). slice_index_or line x.0 false) (ap (λ rs. slice_index_or rs r.0 []) pushed ∙ last old leaves r.0 [] (count ∙ here))
        ∙ (exact x.0 ∙ sym (ap (λ found. row_leads_to tables found x.0) (subst (λ (k : ℕ). slice_get tables.refs k ≡ Some row) here at)))

  pub leaves-done : (i : ℕ) (rows : List (List Bool)) → length rows ≡ i → length tables.refs ≤ i → AreLeavesUntil i rows → AreLeavesOf tables rows
  leaves-done i rows count past until = record { exact = λ r x. go r x (cases_lt r.0 i) } where
    go : (r x : RefId) → (r.0 < i) ⊎ (i ≤ r.0) → leads_in rows r x ≡ leads_to tables r x
    go r x (inl below) = until r x below
    go r x (inr beyond) =
        ap (λ (line : List Bool). slice_index_or line x.0 false) (get_or_past rows r.0 [] (omega arith))
        ∙ sym (ap (λ found. row_leads_to tables found x.0) (slice_get_past tables.refs r.0 (omega arith)))
