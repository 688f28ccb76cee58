-- Which pairs of references pieces ask for. Working definitions.
use Rattle.std.specs.Prelude.{◌≡◌, ℕ, ◌<◌, ◌⊎◌, ◌==◌, ◌&&◌, ◌↔◌, Bool, true, false, is_some, List, Option, slice_index_or}
use Rattle.std.specs.HashMap.{get_by}
use Rattle.tm_base.specs.declared.assume.Assume.{Assume}
use Rattle.tm_base.specs.declared.cell.Cell.{Cell}
use Rattle.tm_base.specs.declared.cell.Cell.TheVariants.{Ptr}
use Rattle.tm_base.specs.Expanded.{Expanded}
use Rattle.tm_base.specs.declared.ground.Ground.{Ground}
use Rattle.tm_base.specs.Cells.{Word}
use Rattle.tm_base.specs.Tables.{Tables, expanded_in}
use Rattle.tm_base.specs.Transmutes.{IsSourceWord}
use Rattle.tm_base.specs.Worlds.{IsTypeOver}
use Rattle.tm_refute.specs.declared.refuting.asked.Asked.{Asked}
use Rattle.tm_refute.specs.declared.refutation.Piece.{Piece}
use Rattle.tm_refs.specs.declared.compat.Compat.{Compat}
use Rattle.tm_refs.specs.Solved.{depth_in}
use Rattle.tm_refute.specs.Chosen.{Asks, ProofAsks}
use Rattle.tm_refute.specs.declared.refutation.Proof.{Proof}
use Rattle.tm_base.specs.declared.definition.RefRow.{RefRow}
use Rattle.tm_refute.specs.Depths.{stands}

-- whether a pair of references is asked for
abbrev pub is_asked : Asked → ℕ → ℕ → Bool
is_asked asked r t = is_some (get_by (λ pair. (r == pair.0) && (t == pair.1)) asked.pairs)

-- the cell is one of the reference
abbrev pub is_of : Cell → ℕ → Bool
is_of (Ptr id place) r = id.0 == r
is_of cell r = false

-- it is a word of some type over the tables
abbrev pub HasSource : Tables → Word → Type 0
HasSource tables w = (g : Ground) × IsTypeOver tables g × IsSourceWord (expanded_in tables g) w

-- the piece asks why the two references fail
abbrev pub IsAskedBy : Tables → Assume → Option ℕ → Expanded → Piece → ℕ → ℕ → Type 0
IsAskedBy tables assume limit t piece r leaf = (depth : ℕ) × Asks tables assume limit t piece r leaf depth

-- what a piece asks for is asked for too, and nothing more
pub record AsksToo (tables : Tables) (assume : Assume) (limit : Option ℕ) (t : Expanded) (piece : Piece) (before after : Asked) : Type 0 where
  pub each : (r leaf : ℕ) → (is_asked after r leaf ≡ true) ↔ ((is_asked before r leaf ≡ true) ⊎ IsAskedBy tables assume limit t piece r leaf)

-- of the leaves below a number those are asked for too with the reference that fail with it below the limit
pub record AsksLeaves (compat : Compat) (limit : Option ℕ) (source : ℕ) (leaves : List Bool) (end : ℕ) (before after : Asked) : Type 0 where
  pub each : (r leaf : ℕ) → (is_asked after r leaf ≡ true)
      ↔ ((is_asked before r leaf ≡ true)
      ⊎ ((source ≡ r) × (leaf < end) × (slice_index_or leaves leaf false ≡ true) × (stands limit (depth_in compat r leaf) ≡ false)))

-- of the references that occur below a number, and of all leaves, those pairs are asked for too that fail below the limit
pub record AsksAll (compat : Compat) (limit : Option ℕ) (occurring leaves : List Bool) (end : ℕ) (before after : Asked) : Type 0 where
  pub each : (r leaf : ℕ) → (is_asked after r leaf ≡ true)
      ↔ ((is_asked before r leaf ≡ true)
      ⊎ ((r < end) × (slice_index_or occurring r false ≡ true) × (leaf < 64) × (slice_index_or leaves leaf false ≡ true) × (stands limit (depth_in compat r leaf) ≡ false)))

-- what a proof at a depth asks for is asked for too, and nothing more
pub record ProofAsksToo (tables : Tables) (assume : Assume) (depth : ℕ) (proof : Proof) (s t : RefRow) (before after : Asked) : Type 0 where
  pub each : (r leaf : ℕ) → (is_asked after r leaf ≡ true) ↔ ((is_asked before r leaf ≡ true) ⊎ ((other : ℕ) × ProofAsks tables assume depth proof r leaf other s t))
