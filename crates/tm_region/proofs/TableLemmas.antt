-- The table of some bounds, and what it tells.
use Rattle.std.proofs.Common.{◌≡◌, ℕ, zero, suc, ◌<◌, ◌≤◌, ◌⊎◌, inl, inr, sym, ◌∙◌, ap, subst, Bool, true, false, ◌&&◌, ◌||◌, nat_eq, List, [], ◌∷◌, ◌++◌, length, map, replicate, slice_index_or, zero-add, arith}
use Rattle.std.specs.List.{list_all, range_with_len}
use Rattle.std.proofs.lemmas.Bool.{and_parts, and_from, or_cases, or_left, or_right, eqb-true, eq-eqb, cases_lt, cases_eq, both_ways, ltb-true}
use Rattle.std.proofs.lemmas.List.{get_or-replicate, get_or_default, get_or_past, get_or-set_same, get_or-set_other}
use Rattle.std.proofs.lemmas.List.FromFn.{get_or-map-range_with_len, length-map-range_with_len}
use Rattle.tm_base.specs.declared.definition.Bound.{Bound}
use Rattle.tm_base.specs.declared.definition.NamedRow.{NamedRow}
use Rattle.tm_base.specs.declared.definition.RefRow.{RefRow}
use Rattle.tm_base.specs.declared.definition.RegionId.{RegionId}
use Rattle.tm_base.specs.Outlives.{static, IsBound, Outlives}
use Rattle.tm_base.specs.Reaches.{ChainIn, Chain}
use Rattle.tm_base.specs.Whole.{is_bound_known, are_regions_known}
use Rattle.tm_region.specs.Order.{IsOrderOf}
use Rattle.tm_region.specs.Table.{IsAdded, has, lone_row, leads_in, outlives_in}
use Rattle.tm_region.proofs.ChainLemmas.{Through, Chain-through, Chain-from_through}

-- the table tells where a chain of the bounds leads from each of its regions
pub record IsTableOf (bounds : List Bound) (rows : List (List Bool)) : Type 0 where
  pub sound : (a b : RegionId) → a.0 < length rows → has rows a.0 b.0 ≡ true → Chain (IsBound bounds) a b
  pub complete : (a b : RegionId) → a.0 < length rows → Chain (IsBound bounds) a b → has rows a.0 b.0 ≡ true

same_region : (a b : RegionId) → a.0 ≡ b.0 → a ≡ b
same_region a b e = ap (λ (n : ℕ). let r : RegionId = record { 0 = n } in r) e

module _ (bounds : List Bound) (bound : Bound) (old new : List (List Bool)) where
  -- with a bound more
  pub IsTableOf-add : IsTableOf bounds old → length new ≡ length old → bound.longer.0 < length old → bound.shorter.0 < length old → IsAdded bound old new → IsTableOf (bounds ++ bound ∷ []) new
  IsTableOf-add table long longer shorter added = record {
    sound = λ a b below h. Chain-from_through bounds bound a b (through a b (omega arith) (or_cases _ _ (sym (added a.0 b.0) ∙ h)));
    complete = λ a b below (n, way). added a.0 b.0 ∙ told a b (omega arith) (Chain-through bounds bound n a b way);
  } where
    through : (a b : RegionId) → a.0 < length old → (has old a.0 b.0 ≡ true) ⊎ ((has old a.0 bound.longer.0 && has old bound.shorter.0 b.0) ≡ true) → Through bounds bound a b
    through a b below (inl h) = inl (table.sound a b below h)
    through a b below (inr h) =
        let (to, from) = and_parts (has old a.0 bound.longer.0) (has old bound.shorter.0 b.0) h in
        inr (table.sound a bound.longer below to, table.sound bound.shorter b shorter from)

    told : (a b : RegionId) → a.0 < length old → Through bounds bound a b → (has old a.0 b.0 || (has old a.0 bound.longer.0 && has old bound.shorter.0 b.0)) ≡ true
    told a b below (inl way) = or_left (has old a.0 b.0) _ (table.complete a b below way)
    told a b below (inr (to, from)) =
        or_right (has old a.0 b.0) _ (and_from _ _ (table.complete a bound.longer below to) (table.complete bound.shorter b shorter from))

-- without bounds each region leads to itself alone
none_stands : (b : ℕ) → slice_index_or (replicate 17 false) b false ≡ false
none_stands b = go (cases_lt b 17) where
  go : (b < 17) ⊎ (17 ≤ b) → slice_index_or (replicate 17 false) b false ≡ false
  go (inl below) = get_or-replicate 17 b false false below
  go (inr past) = get_or_past (replicate 17 false) b false past

lone-at : (a b : ℕ) → a < 17 → slice_index_or (lone_row a) b false ≡ true → a ≡ b
lone-at a b below h = go (cases_eq b a) where
  go : (b ≡ a) ⊎ (b ≡ a → ⊥) → a ≡ b
  go (inl e) = sym e
  go (inr ne) = absurd (both_ways _ (get_or-set_other (replicate 17 false) a b true false ne ∙ none_stands b) h)

lone-itself : (a : ℕ) → a < 17 → slice_index_or (lone_row a) a false ≡ true
lone-itself a below = get_or-set_same (replicate 17 false) a true false below

pub IsTableOf-start : (count : ℕ) → count ≤ 17 → IsTableOf [] (map lone_row (range_with_len 0 count))
unfolding ChainIn
IsTableOf-start count few = record {
  sound = λ a b below h.
      let in_range : a.0 < count = omega (arith, length-map-range_with_len lone_row 0 count) in
      (0, same_region a b (lone-at a.0 b.0 (omega arith) (ap (λ row. slice_index_or row b.0 false) (sym (row_at a in_range)) ∙ h)));
  complete = λ a b below way.
      let in_range : a.0 < count = omega (arith, length-map-range_with_len lone_row 0 count) in
      ap (λ row. slice_index_or row b.0 false) (row_at a in_range) ∙ subst (λ x. slice_index_or (lone_row a.0) x.0 false ≡ true) (only a b way) (lone-itself a.0 (omega arith));
} where
  row_at : (a : RegionId) → a.0 < count → slice_index_or (map lone_row (range_with_len 0 count)) a.0 [] ≡ lone_row a.0
  row_at a below = get_or-map-range_with_len lone_row 0 count a.0 a.0 [] below (zero-add a.0)

  only : (a b : RegionId) → Chain (IsBound []) a b → a ≡ b
  only a b (zero, e) = e
  only a b (suc n, (next, (k, below, e), way)) = absurd (omega arith)

known : (count : ℕ) (bounds : List Bound) (k : ℕ) (bound : Bound) → list_all (is_bound_known count) bounds ≡ true → k < length bounds → slice_index_or bounds k bound ≡ bound → is_bound_known count bound ≡ true
known count [] k bound h below e = absurd (omega arith)
known count (x ∷ bounds) zero bound h below e = subst (λ y. is_bound_known count y ≡ true) e (and_parts (is_bound_known count x) _ h).0
known count (x ∷ bounds) (suc k) bound h below e = known count bounds k bound (and_parts (is_bound_known count x) _ h).1 (omega arith) e

-- a region that no bound names leads to itself alone
outside : (count : ℕ) (bounds : List Bound) → list_all (is_bound_known count) bounds ≡ true → (a b : RegionId) → count ≤ a.0 → Chain (IsBound bounds) a b → a ≡ b
unfolding ChainIn
outside count bounds h a b past (zero, e) = e
outside count bounds h a b past (suc n, (next, (k, below, e), way)) =
    let in_range = ltb-true a.0 count (and_parts _ _ (known count bounds k (record { longer = a; shorter = next }) h below e)).0 in
    absurd (omega arith)

module _ (bounds : List Bound) (rows : List (List Bool)) (table : IsTableOf bounds rows) (all_known : list_all (is_bound_known (length rows)) bounds ≡ true) where
  leads-sound : (a b : RegionId) → leads_in rows a b ≡ true → Chain (IsBound bounds) a b
  unfolding ChainIn
  leads-sound a b h = go (or_cases _ _ h) (cases_lt a.0 (length rows)) where
    go : (nat_eq a.0 b.0 ≡ true) ⊎ (has rows a.0 b.0 ≡ true) → (a.0 < length rows) ⊎ (length rows ≤ a.0) → Chain (IsBound bounds) a b
    go (inl e) side = (0, same_region a b (eqb-true a.0 b.0 e))
    go (inr told) (inl below) = table.sound a b below told
    go (inr told) (inr past) = absurd (both_ways _ (ap (λ row. slice_index_or row b.0 false) (get_or_past rows a.0 [] past)) told)

  leads-complete : (a b : RegionId) → Chain (IsBound bounds) a b → leads_in rows a b ≡ true
  leads-complete a b way = go (cases_lt a.0 (length rows)) where
    go : (a.0 < length rows) ⊎ (length rows ≤ a.0) → leads_in rows a b ≡ true
    go (inl below) = or_right (nat_eq a.0 b.0) _ (table.complete a b below way)
    go (inr past) = or_left (nat_eq a.0 b.0) _ (eq-eqb a.0 b.0 (ap (λ x. x.0) (outside (length rows) bounds all_known a b past way)))

  pub IsOrderOf-table : IsOrderOf bounds rows
  IsOrderOf-table = record { exact = λ a b. (sound a b, complete a b) } where
    sound : (a b : RegionId) → outlives_in rows a b ≡ true → Outlives bounds a b
    sound a b h = go (or_cases _ _ h) where
      go : (leads_in rows a b ≡ true) ⊎ (leads_in rows a static ≡ true) → Outlives bounds a b
      go (inl e) = inl (leads-sound a b e)
      go (inr e) = inr (leads-sound a static e)

    complete : (a b : RegionId) → Outlives bounds a b → outlives_in rows a b ≡ true
    complete a b (inl way) = or_left (leads_in rows a b) _ (leads-complete a b way)
    complete a b (inr way) = or_right (leads_in rows a b) _ (leads-complete a static way)

-- what a world says of its bounds
pub bounds-known : (regions : ℕ) (bounds : List Bound) (named : List NamedRow) (refs : List RefRow) → are_regions_known regions bounds named refs ≡ true → list_all (is_bound_known regions) bounds ≡ true
unfolding are_regions_known
bounds-known regions bounds named refs h = (and_parts _ _ (and_parts _ _ h).0).0

-- each bound names regions of the world
pub bound-known-at : (count : ℕ) (bounds : List Bound) (k : ℕ) (d : Bound) → list_all (is_bound_known count) bounds ≡ true → k < length bounds → ((slice_index_or bounds k d).longer.0 < count) × ((slice_index_or bounds k d).shorter.0 < count)
bound-known-at count bounds k d h below =
    let bound = slice_index_or bounds k d in
    let (longer, shorter) = and_parts _ _ (known count bounds k bound h below (get_or_default bounds k bound d below)) in
    (ltb-true bound.longer.0 count longer, ltb-true bound.shorter.0 count shorter)
