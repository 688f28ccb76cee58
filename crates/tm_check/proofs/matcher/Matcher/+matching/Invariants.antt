use Rattle.std.proofs.Common.{◌≡◌, ◌+◌, drop}
use Rattle.tm_base.specs.declared.ground.Ground.{Named}
use Rattle.tm_base.specs.Expanded.{elements, variants_of}
use Rattle.tm_base.specs.Layout.{size_of}
use Rattle.tm_base.specs.Places.{fields_place}
use Rattle.tm_base.specs.Tables.{expanded_in}
use Rattle.tm_base.specs.Worlds.{tables_of}
use Rattle.tm_layout.proofs.NodeLemmas.{nodes_in, all_nodes, row_nodes}
use Rattle.tm_check.specs.Begins.{begins, fields_begin, some_field_begins, some_variant_begins, times_begin}
use Rattle.tm_layout.specs.LaidOut.{places_at}
use Rattle.tm_check.specs.Runs.{word_of}
use Rattle.tm_check.proofs.matcher.Matcher.+matching.Given as goal

abbrev pub decreases-begins : goal.decreases-begins
decreases-begins g l = 1 + nodes_in (tables_of l.self.now.world.now) l.g.now

abbrev pub decreases-array : goal.decreases-array
decreases-array g l = 2 + nodes_in (tables_of l.self.now.world.now) l.element.now

abbrev pub decreases-named : goal.decreases-named
decreases-named g l = nodes_in (tables_of l.self.now.world.now) (Named l.id)

abbrev pub decreases-defined : goal.decreases-defined
decreases-defined g l = 4 + row_nodes (tables_of l.self.now.world.now) l.types.now

abbrev pub decreases-some_variant : goal.decreases-some_variant
decreases-some_variant g l = 3 + row_nodes (tables_of l.self.now.world.now) l.types.now

abbrev pub decreases-fields : goal.decreases-fields
decreases-fields g l = 2 + all_nodes (tables_of l.self.now.world.now) l.types.now

abbrev pub decreases-some_field : goal.decreases-some_field
decreases-some_field g l = 2 + all_nodes (tables_of l.self.now.world.now) l.types.now

-- what is left decides
abbrev pub invariant-array-loop-left : goal.invariant-array-loop-left
invariant-array-loop-left g l =
    let t = expanded_in (tables_of l.self.world.now) l.element in
    let test = begins (g.M.RefTest.test l.self.refs.now) l.self.keep_private t in
    times_begin l.left (size_of t) test (word_of l.rest) ≡ times_begin l.count (size_of t) test (word_of l.run)

abbrev pub invariant-fields-loop-field : goal.invariant-fields-loop-field
invariant-fields-loop-field g l =
    let part = expanded_in (tables_of l.self.world.now) in
    let ps = places_at (part (Named l.id)) l.variant in
    let begin = fields_begin (g.M.RefTest.test l.self.refs.now) l.self.keep_private in
    begin l.end (drop l.field ps) (elements part (drop l.field l.types)) (word_of l.rest) ≡ begin l.from ps (elements part l.types) (word_of l.run)

abbrev pub invariant-some_field-loop-g : goal.invariant-some_field-loop-g
invariant-some_field-loop-g g l =
    let part = expanded_in (tables_of l.self.world.now) in
    let begin = some_field_begins (g.M.RefTest.test l.self.refs.now) l.self.keep_private in
    begin (elements part (drop l.g-index l.types)) (word_of l.run) ≡ begin (elements part l.types) (word_of l.run)

abbrev pub invariant-some_variant-loop-number : goal.invariant-some_variant-loop-number
invariant-some_variant-loop-number g l =
    let profile = l.self.world.now.profile in
    let variants = variants_of (expanded_in (tables_of l.self.world.now)) in
    let begin = fields_place profile l.def.repr (variants l.def.variants l.types) in
    let some = some_variant_begins (g.M.RefTest.test l.self.refs.now) l.self.keep_private profile l.def.repr begin in
    some (variants (drop l.number l.def.variants) (drop l.number l.types)) (word_of l.run) ≡ some (variants l.def.variants l.types) (word_of l.run)

abbrev pub decreases-array-loop-left : goal.decreases-array-loop-left
decreases-array-loop-left g l = l.left
