use Rattle.std.proofs.Common.{◌≡◌, ◌+◌, ◌++◌, drop}
use Rattle.tm_base.specs.declared.ground.Ground.{Named}
use Rattle.tm_base.specs.Expanded.{elements, variants_of}
use Rattle.tm_base.specs.Places.{fields_place}
use Rattle.tm_base.specs.Tables.{expanded_in}
use Rattle.tm_base.specs.Worlds.{tables_of}
use Rattle.tm_layout.proofs.NodeLemmas.{nodes_in, all_nodes, row_nodes}
use Rattle.tm_layout.specs.LaidOut.{places_at}
use Rattle.tm_tree.specs.Parts.{bare_parts, field_parts, union_ways, variant_ways}
use Rattle.tm_tree.proofs.StepLemmas.{IsRowSoFar}
use Rattle.tm_tree.proofs.builder.Builder.+building.Given as goal

abbrev pub decreases-parts : goal.decreases-parts
decreases-parts l = 1 + nodes_in (tables_of l.self.now.world.now) l.g.now

abbrev pub decreases-array_parts : goal.decreases-array_parts
decreases-array_parts l = 2 + nodes_in (tables_of l.self.now.world.now) l.element.now

abbrev pub decreases-named : goal.decreases-named
decreases-named l = nodes_in (tables_of l.self.now.world.now) (Named l.id)

abbrev pub decreases-defined : goal.decreases-defined
decreases-defined l = 4 + row_nodes (tables_of l.self.now.world.now) l.types.now

abbrev pub decreases-variant_ways : goal.decreases-variant_ways
decreases-variant_ways l = 3 + row_nodes (tables_of l.self.now.world.now) l.types.now

abbrev pub decreases-bare_parts : goal.decreases-bare_parts
decreases-bare_parts l = 2 + all_nodes (tables_of l.self.now.world.now) l.types.now

abbrev pub decreases-field_parts : goal.decreases-field_parts
decreases-field_parts l = 2 + all_nodes (tables_of l.self.now.world.now) l.types.now

abbrev pub decreases-union_ways : goal.decreases-union_ways
decreases-union_ways l = 2 + all_nodes (tables_of l.self.now.world.now) l.types.now

-- what is made and what is left are the whole
abbrev pub invariant-bare_parts-loop-g : goal.invariant-bare_parts-loop-g
invariant-bare_parts-loop-g l =
    let part = expanded_in (tables_of l.self.world.now) in
    l.parts ++ bare_parts (elements part (drop l.g-index l.types)) ≡ bare_parts (elements part l.types)

abbrev pub invariant-field_parts-loop-field : goal.invariant-field_parts-loop-field
invariant-field_parts-loop-field l =
    let part = expanded_in (tables_of l.self.world.now) in
    let ps = places_at (part (Named l.id)) l.variant in
    IsRowSoFar part l.size ps l.types (l.initial.row.parts ++ field_parts l.size l.initial.row.end ps (elements part l.types)) l.field l.row

abbrev pub invariant-union_ways-loop-g : goal.invariant-union_ways-loop-g
invariant-union_ways-loop-g l =
    let part = expanded_in (tables_of l.self.world.now) in
    l.ways ++ union_ways l.size (elements part (drop l.g-index l.types)) ≡ union_ways l.size (elements part l.types)

abbrev pub invariant-variant_ways-loop-number : goal.invariant-variant_ways-loop-number
invariant-variant_ways-loop-number l =
    let profile = l.self.world.now.profile in
    let variants = variants_of (expanded_in (tables_of l.self.world.now)) in
    let begin = fields_place profile l.def.repr (variants l.def.variants l.types) in
    l.ways ++ variant_ways profile l.def.repr begin l.size (variants (drop l.number l.def.variants) (drop l.number l.types))
    ≡ variant_ways profile l.def.repr begin l.size (variants l.def.variants l.types)
