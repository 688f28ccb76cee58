-- Which references of a world have judged pointees.
use Rattle.std.specs.Prelude.{◌≡◌, ◌↔◌, ℕ, Bool, false, IsTrue, Some, List, slice_get, slice_index_or}
use Rattle.tm_base.specs.declared.definition.RefRow.{RefRow}
use Rattle.tm_base.specs.Reaches.{IsJudged}
use Rattle.tm_base.specs.Tables.{Tables}

-- what stands for a reference
abbrev pub judged_at : List Bool → ℕ → Bool
judged_at judged r = slice_index_or judged r false

-- of each reference, whether its pointee is judged
pub record AreJudgedRefs (tables : Tables) (judged : List Bool) : Type 0 where
  pub each : (r : ℕ) (row : RefRow) → slice_get tables.refs r ≡ Some row → IsTrue (judged_at judged r) ↔ IsJudged tables row.pointee
