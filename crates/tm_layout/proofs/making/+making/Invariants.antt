use Rattle.std.proofs.Common.{◌≡◌, ℕ, ◌+◌, ◌<◌, Some, slice_get}
use Rattle.tm_base.specs.declared.ground.Ground.{Ground, Named}
use Rattle.tm_base.specs.Worlds.{tables_of}
use Rattle.tm_layout.specs.Made.{EachIs, IsKnown}
use Rattle.tm_layout.specs.Making.{IsGrown}
use Rattle.tm_layout.proofs.NodeLemmas.{nodes_in, all_nodes, row_nodes}
use Rattle.tm_layout.proofs.making.+making.Given as goal

abbrev pub decreases-make_type : goal.decreases-make_type
decreases-make_type l = 1 + nodes_in (tables_of l.world.now) l.g.now

abbrev pub decreases-make_types : goal.decreases-make_types
decreases-make_types l = 2 + all_nodes (tables_of l.world.now) l.types.now

abbrev pub decreases-make_variants : goal.decreases-make_variants
decreases-make_variants l = 3 + row_nodes (tables_of l.world.now) l.variants.now

abbrev pub decreases-make_row : goal.decreases-make_row
decreases-make_row l = nodes_in (tables_of l.world.now) (Named l.id)

-- the first types are known
abbrev pub invariant-make_types-loop-g : goal.invariant-make_types-loop-g
invariant-make_types-loop-g l = record {
  grown : IsGrown (tables_of l.world) l.initial.rows l.rows;
  known : (k : ℕ) (g : Ground) → k < l.g-index → slice_get l.types k ≡ Some g → IsKnown (tables_of l.world) l.rows g;
}

-- the first variants are known
abbrev pub invariant-make_variants-loop-types : goal.invariant-make_variants-loop-types
invariant-make_variants-loop-types l = record {
  grown : IsGrown (tables_of l.world) l.initial.rows l.rows;
  known : (k : ℕ) (types : _) → k < l.types-index → slice_get l.variants k ≡ Some types → EachIs (IsKnown (tables_of l.world) l.rows) types;
}
