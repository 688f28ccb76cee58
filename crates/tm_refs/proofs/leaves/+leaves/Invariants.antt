use Rattle.std.proofs.Common.{◌+◌, take}
use Rattle.tm_base.specs.declared.ground.Ground.{Named}
use Rattle.tm_base.specs.Worlds.{tables_of}
use Rattle.tm_layout.proofs.NodeLemmas.{nodes_in, all_nodes, row_nodes}
use Rattle.tm_refs.specs.Leaves.{AreAdded, some_leaf, variant_leaf}
use Rattle.tm_refs.proofs.leaves.+leaves.Given as goal

abbrev pub decreases-add_type : goal.decreases-add_type
decreases-add_type l = 1 + nodes_in (tables_of l.world.now) l.g.now

abbrev pub decreases-add_types : goal.decreases-add_types
decreases-add_types l = 2 + all_nodes (tables_of l.world.now) l.types.now

abbrev pub decreases-add_variants : goal.decreases-add_variants
decreases-add_variants l = 3 + row_nodes (tables_of l.world.now) l.variants.now

abbrev pub decreases-add_row : goal.decreases-add_row
decreases-add_row l = nodes_in (tables_of l.world.now) (Named l.id)

-- the leaves of the types so far are added
abbrev pub invariant-add_types-loop-g : goal.invariant-add_types-loop-g
invariant-add_types-loop-g l = AreAdded (some_leaf (tables_of l.world) (take l.g-index l.types)) l.initial.leaves l.leaves

-- those of the variants so far
abbrev pub invariant-add_variants-loop-types : goal.invariant-add_variants-loop-types
invariant-add_variants-loop-types l = AreAdded (variant_leaf (tables_of l.world) (take l.types-index l.variants)) l.initial.leaves l.leaves
