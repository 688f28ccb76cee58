use Rattle.std.proofs.Common.{◌+◌, ◌*◌, ◌-◌, length}
use Rattle.tm_parse.specs.Shapes.{listed, with_comma}
use Rattle.tm_parse.specs.Types.{type_at}
use Rattle.tm_parse.proofs.reading.Loops.{put_before, Goes}
use Rattle.tm_parse.proofs.reader.Reader.+ty.Given as goal

abbrev pub decreases-ty : goal.decreases-ty
decreases-ty l = 12 * (32 - l.depth)

abbrev pub decreases-types : goal.decreases-types
decreases-types l = 12 * (32 - l.depth) + 2

abbrev pub decreases-types1 : goal.decreases-types1
decreases-types1 l = 12 * (32 - l.depth) + 3

abbrev pub decreases-argument_list : goal.decreases-argument_list
decreases-argument_list l = 12 * (32 - l.depth) + 4

abbrev pub decreases-named : goal.decreases-named
decreases-named l = 12 * (32 - l.depth) + 5

abbrev pub decreases-behind_paren : goal.decreases-behind_paren
decreases-behind_paren l = 12 * (32 - l.depth) + 3

abbrev pub decreases-array : goal.decreases-array
decreases-array l = 12 * (32 - l.depth) + 1

abbrev pub decreases-reference : goal.decreases-reference
decreases-reference l = 12 * (32 - l.depth) + 1

abbrev pub decreases-wrapped : goal.decreases-wrapped
decreases-wrapped l = 12 * (32 - l.depth) + 1

abbrev pub decreases-plain : goal.decreases-plain
decreases-plain l = 12 * (32 - l.depth) + 6

abbrev pub decreases-one_level : goal.decreases-one_level
decreases-one_level l = 12 * (32 - l.depth) + 7

abbrev pub invariant-types-loop : goal.invariant-types-loop
invariant-types-loop l =
    let p = with_comma (type_at l.fn.depth 0) in
    Goes p.first p.read (put_before l.fn.found ((listed (type_at l.fn.depth 0)).read l.fn.self.counts l.fn.self.rest.now)) l.found (length l.fn.self.rest.now - l.counter) l.self.counts l.self.rest.now
