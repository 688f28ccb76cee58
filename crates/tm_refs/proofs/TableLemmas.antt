-- The table of what is known of pairs of references, and a pair that is lost from it.
use Rattle.std.proofs.Common.{◌≡◌, ℕ, ◌<◌, ◌≤◌, ◌⊎◌, inl, inr, refl, sym, ◌∙◌, ap, Bool, true, false, ◌&&◌, List, [], length, slice_index_or, slice_set}
use Rattle.std.specs.Prelude.{◌==◌, is_none, if◌then◌else◌}
use Rattle.std.proofs.lemmas.Bool.{and_from, eq-eqb, ne_eqb, cases_lt, cases_eq, both_ways}
use Rattle.std.proofs.lemmas.Grind.{get_or-set_at}
use Rattle.std.proofs.lemmas.List.{get_or_past, get_or-set_other}
use Rattle.tm_refs.specs.declared.pair.Pair.{Pair}
use Rattle.tm_refs.specs.declared.standing.Standing.{Standing}
use Rattle.tm_refs.specs.declared.standing.Standing.TheVariants.{Unjudged, Fails}
use Rattle.tm_refs.specs.Standings.{depth_of, is_held, standing_after, standing_in}

-- a pair that is held stands inside the table
pub held-row : (rows : List (List Standing)) (pair : Pair) → is_held rows pair ≡ true → pair.source.0 < length rows
held-row rows pair held = go (cases_lt pair.source.0 (length rows)) where
  go : (pair.source.0 < length rows) ⊎ (length rows ≤ pair.source.0) → pair.source.0 < length rows
  go (inl below) = below
  go (inr past) =
      absurd (both_ways (is_held rows pair)
      (ap (λ (row : List Standing). is_none (depth_of (slice_index_or row pair.target.0 Unjudged))) (get_or_past rows pair.source.0 [] past)) held)

pub held-place : (rows : List (List Standing)) (pair : Pair) → is_held rows pair ≡ true → pair.target.0 < length (slice_index_or rows pair.source.0 [])
held-place rows pair held = go (cases_lt pair.target.0 (length row)) where
  row : List Standing
  row = slice_index_or rows pair.source.0 []

  go : (pair.target.0 < length row) ⊎ (length row ≤ pair.target.0) → pair.target.0 < length row
  go (inl below) = below
  go (inr past) = absurd (both_ways (is_held rows pair) (ap (λ (s : Standing). is_none (depth_of s)) (get_or_past row pair.target.0 Unjudged past)) held)

right_false : (a b : Bool) → b ≡ false → (a && b) ≡ false
right_false true b h = h
right_false false b h = refl

-- one place of the table is changed
pub standing-put : (rows : List (List Standing)) (pair : Pair) (row : List Standing) (depth : ℕ)
    → pair.source.0 < length rows → pair.target.0 < length row → row ≡ slice_index_or rows pair.source.0 []
    → (r t : ℕ) → standing_in (slice_set rows pair.source.0 (slice_set row pair.target.0 (Fails depth))) r t ≡ standing_after rows pair depth r t
standing-put rows pair row depth inside within same r t = go (cases_eq r pair.source.0) (cases_eq t pair.target.0) where
  changed : List (List Standing)
  changed = slice_set rows pair.source.0 (slice_set row pair.target.0 (Fails depth))

  go : (r ≡ pair.source.0) ⊎ (r ≡ pair.source.0 → ⊥) → (t ≡ pair.target.0) ⊎ (t ≡ pair.target.0 → ⊥) → standing_in changed r t ≡ standing_after rows pair depth r t
  go (inl e) (inl f) =
      ap (λ (line : List Standing). slice_index_or line t Unjudged) (get_or-set_at rows pair.source.0 r (slice_set row pair.target.0 (Fails depth)) [] e inside)
      ∙ (get_or-set_at row pair.target.0 t (Fails depth) Unjudged f within
      ∙ sym (ap (λ (b : Bool). if b then Fails depth else standing_in rows r t) (and_from _ _ (eq-eqb r pair.source.0 e) (eq-eqb t pair.target.0 f))))
  go (inl e) (inr g) =
      ap (λ (line : List Standing). slice_index_or line t Unjudged) (get_or-set_at rows pair.source.0 r (slice_set row pair.target.0 (Fails depth)) [] e inside)
      ∙ (get_or-set_other row pair.target.0 t (Fails depth) Unjudged g
      ∙ (ap (λ (line : List Standing). slice_index_or line t Unjudged) same
      ∙ (ap (λ (k : ℕ). slice_index_or (slice_index_or rows k []) t Unjudged) (sym e)
      ∙ sym (ap (λ (b : Bool). if b then Fails depth else standing_in rows r t) (right_false (r == pair.source.0) _ (ne_eqb t pair.target.0 g))))))
  go (inr g) f =
      ap (λ (line : List Standing). slice_index_or line t Unjudged) (get_or-set_other rows pair.source.0 r (slice_set row pair.target.0 (Fails depth)) [] g)
      ∙ sym (ap (λ (b : Bool). if (b && (t == pair.target.0)) then Fails depth else standing_in rows r t) (ne_eqb r pair.source.0 g))
