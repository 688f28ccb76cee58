use Rattle.std.proofs.Common.{◌≡◌, ◌+◌, ◌++◌, drop, map}
use Rattle.tm_base.specs.declared.ground.Ground.{Named, Ref}
use Rattle.tm_base.specs.Texts.{behind_commas, text_within}
use Rattle.tm_base.specs.Worlds.{tables_of}
use Rattle.tm_base.proofs.SpellingLemmas.{nodes_within, sum_within}
use Rattle.tm_base.proofs.spelling.+spelling.Given as goal

abbrev pub decreases-write_type : goal.decreases-write_type
decreases-write_type l = 2 + nodes_within l.world.now.named l.world.now.refs l.left l.g.now

abbrev pub decreases-write_tuple : goal.decreases-write_tuple
decreases-write_tuple l = 5 + sum_within l.world.now.named l.world.now.refs l.left l.elements.now

abbrev pub decreases-write_types : goal.decreases-write_types
decreases-write_types l = 4 + sum_within l.world.now.named l.world.now.refs l.left l.types.now

abbrev pub decreases-write_other_types : goal.decreases-write_other_types
decreases-write_other_types l = 3 + sum_within l.world.now.named l.world.now.refs l.left l.types.now

abbrev pub decreases-write_array : goal.decreases-write_array
decreases-write_array l = 3 + nodes_within l.world.now.named l.world.now.refs l.left l.element.now

abbrev pub decreases-write_wrap : goal.decreases-write_wrap
decreases-write_wrap l = 3 + nodes_within l.world.now.named l.world.now.refs l.left l.argument.now

abbrev pub decreases-write_named : goal.decreases-write_named
decreases-write_named l = 1 + nodes_within l.world.now.named l.world.now.refs l.left (Named l.id)

abbrev pub decreases-write_row : goal.decreases-write_row
decreases-write_row l = 6 + sum_within l.world.now.named l.world.now.refs l.left l.row.now.args

abbrev pub decreases-write_given : goal.decreases-write_given
decreases-write_given l = 5 + sum_within l.world.now.named l.world.now.refs l.left l.args.now

abbrev pub decreases-write_ref : goal.decreases-write_ref
decreases-write_ref l = 1 + nodes_within l.world.now.named l.world.now.refs l.left (Ref l.id)

abbrev pub decreases-write_row_of_ref : goal.decreases-write_row_of_ref
decreases-write_row_of_ref l = 3 + nodes_within l.world.now.named l.world.now.refs l.left l.row.now.pointee

-- what is written and what the other types give is the whole
abbrev pub invariant-write_other_types-loop-item : goal.invariant-write_other_types-loop-item
invariant-write_other_types-loop-item l =
    l.text ++ behind_commas (map (text_within (tables_of l.world) l.left) (drop l.item-index l.types))
    ≡ l.initial.text ++ behind_commas (map (text_within (tables_of l.world) l.left) l.types)
