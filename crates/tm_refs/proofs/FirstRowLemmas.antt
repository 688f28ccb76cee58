-- The table of what all pairs come to by themselves, row by row.
use Rattle.std.proofs.Common.{◌≡◌, ℕ, zero, suc, ◌+◌, ◌<◌, ◌≤◌, ◌⊎◌, inl, inr, refl, sym, ◌∙◌, ap, subst, List, [], ◌∷◌, ◌++◌, length, replicate, slice_index_or, slice_set, arith}
use Rattle.std.proofs.lemmas.Bool.{cases_eq, cases_lt}
use Rattle.std.proofs.lemmas.Grind.{get_or-set_at}
use Rattle.std.proofs.lemmas.List.{get_or_past, get_or-replicate, get_or-set_other}
use Rattle.tm_base.specs.declared.assume.Assume.{Assume}
use Rattle.tm_base.specs.Tables.{Tables}
use Rattle.tm_refs.specs.declared.standing.Standing.{Standing}
use Rattle.tm_refs.specs.declared.standing.Standing.TheVariants.{Unjudged}
use Rattle.tm_refs.specs.Rounds.{IsFirst, IsSettled, IsTable}
use Rattle.tm_refs.specs.Standings.{standing_in}
use Rattle.tm_refs.proofs.FirstLemmas.{past-unjudged, unjudged-first}

pub get_or-append_left : {X : Type 0} (xs ys : List X) (k : ℕ) (d : X) → k < length xs → slice_index_or (xs ++ ys) k d ≡ slice_index_or xs k d
get_or-append_left [] ys k d below = absurd (omega arith)
get_or-append_left (x ∷ xs) ys zero d below = refl
get_or-append_left (x ∷ xs) ys (suc k) d below = get_or-append_left xs ys k d (omega arith)

pub last : {X : Type 0} (xs : List X) (x : X) (k : ℕ) (d : X) → length xs ≡ k → slice_index_or (xs ++ x ∷ []) k d ≡ x
last [] x zero d e = refl
last [] x (suc k) d e = absurd (omega arith)
last (y ∷ xs) x zero d e = absurd (omega arith)
last (y ∷ xs) x (suc k) d e = last xs x k d (omega arith)

module _ (tables : Tables) (assume : Assume) where
  -- a table of what all pairs come to
  pub first-table : (rows : List (List Standing)) → ((r t : ℕ) → IsFirst tables assume r t (standing_in rows r t)) → IsTable tables assume 0 rows
  first-table rows first = record { right = λ r t. (first r t).right }

  pub first-settled : (rows : List (List Standing)) → ((r t : ℕ) → IsFirst tables assume r t (standing_in rows r t)) → IsSettled tables assume 0 rows
  first-settled rows first = record { fails = λ pair e. (first pair.source.0 pair.target.0).settled e }

  -- a row in which nothing is known yet
  pub row-start : (t : ℕ) → slice_index_or (replicate 64 Unjudged) t Unjudged ≡ Unjudged
  row-start t = go (cases_lt t 64) where
    go : (t < 64) ⊎ (64 ≤ t) → slice_index_or (replicate 64 Unjudged) t Unjudged ≡ Unjudged
    go (inl below) = get_or-replicate 64 t Unjudged Unjudged below
    go (inr past) = get_or_past (replicate 64 Unjudged) t Unjudged past

  -- what is right of a source reference and the first so many target references
  abbrev pub IsRowUntil : ℕ → ℕ → List Standing → Type 0
  IsRowUntil r i row = (t : ℕ) → t < i → IsFirst tables assume r t (slice_index_or row t Unjudged)

  abbrev pub IsBlankFrom : ℕ → List Standing → Type 0
  IsBlankFrom i row = (t : ℕ) → i ≤ t → slice_index_or row t Unjudged ≡ Unjudged

  pub row-more : (r i : ℕ) (row : List Standing) (x : Standing) → i < length row → IsFirst tables assume r i x → IsRowUntil r i row → IsRowUntil r (i + 1) (slice_set row i x)
  row-more r i row x inside first until t below = go (cases_eq t i) where
    go : (t ≡ i) ⊎ (t ≡ i → ⊥) → IsFirst tables assume r t (slice_index_or (slice_set row i x) t Unjudged)
    go (inl e) =
        subst (λ (s : Standing). IsFirst tables assume r t s) (sym (get_or-set_at row i t x Unjudged e inside))
        (subst (λ (k : ℕ). IsFirst tables assume r k x) (sym e) first)
    go (inr ne) = subst (λ (s : Standing). IsFirst tables assume r t s) (sym (get_or-set_other row i t x Unjudged ne)) (until t (omega arith))

  pub blank-more : (i : ℕ) (row : List Standing) (x : Standing) → IsBlankFrom i row → IsBlankFrom (i + 1) (slice_set row i x)
  blank-more i row x blank t past = let ne : t ≡ i → ⊥ = (λ e. omega arith) in get_or-set_other row i t x Unjudged ne ∙ blank t (omega arith)

  pub row-done : (r i : ℕ) (row : List Standing) → length tables.refs ≤ i → IsRowUntil r i row → IsBlankFrom i row → (t : ℕ) → IsFirst tables assume r t (slice_index_or row t Unjudged)
  row-done r i row past until blank t = go (cases_lt t i) where
    go : (t < i) ⊎ (i ≤ t) → IsFirst tables assume r t (slice_index_or row t Unjudged)
    go (inl below) = until t below
    go (inr beyond) = subst (λ (s : Standing). IsFirst tables assume r t s) (sym (blank t beyond)) (unjudged-first tables assume r t (past-unjudged tables assume r t (inr (omega arith))))

  -- what is right of the first so many source references
  abbrev pub AreRowsUntil : ℕ → List (List Standing) → Type 0
  AreRowsUntil i rows = (r t : ℕ) → r < i → IsFirst tables assume r t (standing_in rows r t)

  pub rows-more : (i : ℕ) (old new : List (List Standing)) (row : List Standing) → length old ≡ i → new ≡ old ++ row ∷ []
      → ((t : ℕ) → IsFirst tables assume i t (slice_index_or row t Unjudged)) → AreRowsUntil i old → AreRowsUntil (i + 1) new
  rows-more i old new row count pushed first until r t below = go (cases_lt r i) where
    go : (r < i) ⊎ (i ≤ r) → IsFirst tables assume r t (standing_in new r t)
    go (inl less) =
        let same : slice_index_or new r [] ≡ slice_index_or old r [] = ap (λ rs. slice_index_or rs r []) pushed ∙ get_or-append_left old (row ∷ []) r [] (omega arith) in
        subst (λ (line : List Standing). IsFirst tables assume r t (slice_index_or line t Unjudged)) (sym same) (until r t less)
    go (inr past) =
        let here : i ≡ r = omega arith in
        let same : slice_index_or new r [] ≡ row = ap (λ rs. slice_index_or rs r []) pushed ∙ last old row r [] (count ∙ here) in
        subst (λ (line : List Standing). IsFirst tables assume r t (slice_index_or line t Unjudged)) (sym same)
        (subst (λ (k : ℕ). IsFirst tables assume k t (slice_index_or row t Unjudged)) here (first t))

  pub rows-done : (i : ℕ) (rows : List (List Standing)) → length rows ≡ i → length tables.refs ≤ i → AreRowsUntil i rows → (r t : ℕ) → IsFirst tables assume r t (standing_in rows r t)
  rows-done i rows count past until r t = go (cases_lt r i) where
    go : (r < i) ⊎ (i ≤ r) → IsFirst tables assume r t (standing_in rows r t)
    go (inl below) = until r t below
    go (inr beyond) =
        subst (λ (line : List Standing). IsFirst tables assume r t (slice_index_or line t Unjudged)) (sym (get_or_past rows r [] (omega arith)))
        (unjudged-first tables assume r t (past-unjudged tables assume r t (inl (omega arith))))
