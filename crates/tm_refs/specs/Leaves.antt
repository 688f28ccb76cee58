-- The leaves of the pointees of a world's references.
use Rattle.std.specs.Prelude.{◌≡◌, ℕ, ◌||◌, Bool, false, List, [], slice_index_or}
use Rattle.std.specs.List.{list_any}
use Rattle.tm_base.specs.declared.cell.RefId.{RefId}
use Rattle.tm_base.specs.declared.ground.Ground.{Ground}
use Rattle.tm_base.specs.Tables.{Tables, expanded_in}
use Rattle.tm_refs.specs.Looks.{has_leaf, leads_to}

-- whether a reference's pointee has the leaf, by its row; what stands nowhere is none
abbrev pub leads_in : List (List Bool) → RefId → RefId → Bool
leads_in rows r x = slice_index_or (slice_index_or rows r.0 []) x.0 false

-- some leaves, by number, are added to a row
pub record AreAdded (added : ℕ → Bool) (before after : List Bool) : Type 0 where
  pub each : (x : ℕ) → slice_index_or after x false ≡ (slice_index_or before x false || added x)

module _ (tables : Tables) where
  -- for each reference of the world the leaves of its pointee
  pub record AreLeavesOf (rows : List (List Bool)) : Type 0 where
    pub exact : (r x : RefId) → leads_in rows r x ≡ leads_to tables r x

  abbrev pub leaf_of : Ground → ℕ → Bool
  leaf_of g x = has_leaf (expanded_in tables g) x

  -- one of some types has the leaf
  abbrev pub some_leaf : List Ground → ℕ → Bool
  some_leaf gs x = list_any (λ g. leaf_of g x) gs

  -- a type of one of some variants has it
  abbrev pub variant_leaf : List (List Ground) → ℕ → Bool
  variant_leaf types x = list_any (λ gs. some_leaf gs x) types
