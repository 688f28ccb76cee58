-- How often the pointees of two references are looked at until it is known which go together: each pair once,
-- and again where what its answer rests on was lost. This project's.
use Rattle.std.specs.Prelude.{ℕ, ◌+◌, ◌==◌, ◌↔◌, Bool, false, ◌&&◌, ◌||◌, not, IsTrue, Option, None, Some, List, length, map, flat_map, filter, count_by, sum_by, slice_get}
use Rattle.std.specs.List.{list_any, range_with_len}
use Rattle.tm_base.specs.declared.assume.Assume.{Assume}
use Rattle.tm_base.specs.declared.cell.RefId.{RefId}
use Rattle.tm_base.specs.declared.definition.RefRow.{RefRow}
use Rattle.tm_base.specs.Compatible.{Compatible}
use Rattle.tm_base.specs.Expanded.{Expanded, ref}
use Rattle.tm_base.specs.Parts.{some_within}
use Rattle.tm_base.specs.Tables.{Tables, pointee_in}
use Rattle.tm_refs.specs.declared.pair.Pair.{Pair}

-- the type is the reference with this number
abbrev pub is_reference : ℕ → Expanded → Bool
is_reference x (ref profile t) = t.0 == x
is_reference x t = false

-- the reference is a leaf of the type: the type is it, or holds it by value at any depth
abbrev pub has_leaf : Expanded → ℕ → Bool
has_leaf t x = some_within (is_reference x) t

abbrev pub pair_of : ℕ → ℕ → Pair
pair_of r t = record { source = record { 0 = r }; target = record { 0 = t } }

-- the pairs of one source and targets below a number
abbrev pub pairs_from : ℕ → ℕ → List Pair
pairs_from r n = map (pair_of r) (range_with_len 0 n)

-- all pairs of numbers below one
abbrev pub pairs_below : ℕ → List Pair
pairs_below n = flat_map (λ r. pairs_from r n) (range_with_len 0 n)

-- a reference is `&mut`
abbrev pub row_is_mutable : Option RefRow → Bool
row_is_mutable None = false
row_is_mutable (Some row) = row.mutable

module _ (tables : Tables) where
  -- a reference's pointee has the leaf
  abbrev pub row_leads_to : Option RefRow → ℕ → Bool
  row_leads_to None x = false
  row_leads_to (Some row) x = has_leaf (pointee_in tables row) x

  abbrev pub leads_to : RefId → RefId → Bool
  leads_to r x = row_leads_to (slice_get tables.refs r.0) x.0

  -- Whether the one pair's pointees go together may rest on whether the other pair does: its source is a leaf of
  -- what is taken, and its target one of what it is taken as; where the target is `&mut`, also back again.
  abbrev pub depends_on : Pair → Pair → Bool
  depends_on pair other =
      (leads_to pair.source other.source && leads_to pair.target other.target)
      || (row_is_mutable (slice_get tables.refs pair.target.0) && (leads_to pair.target other.source && leads_to pair.source other.target))

  abbrev pub all_pairs : List Pair
  all_pairs = pairs_below (length tables.refs)

  -- it depends on some of these
  abbrev pub depends_on_some : List Pair → Pair → Bool
  depends_on_some others pair = list_any (depends_on pair) others

  -- how many pairs depend on one
  abbrev pub dependents : Pair → ℕ
  dependents other = count_by (λ pair. depends_on pair other) all_pairs

  -- as many as there are pairs, and for each pair that isn't compatible as many as depend on it
  abbrev pub most_looks : (ℕ → ℕ → Bool) → ℕ
  most_looks compatible = length all_pairs + sum_by dependents (filter (λ pair. not (compatible pair.source.0 pair.target.0)) all_pairs)

  -- the test that compatible references pass
  pub record IsCompatibility (assume : Assume) (compatible : ℕ → ℕ → Bool) : Type 0 where
    pub exact : (r t : ℕ) → IsTrue (compatible r t) ↔ Compatible tables assume r t
