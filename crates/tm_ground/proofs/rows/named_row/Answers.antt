use Rattle.std.proofs.Common.{[], ◌∙◌, ap, map}
use Rattle.tm_ground.specs.Closed.{region_of}
use Rattle.tm_ground.proofs.world.RowLemmas.{argument-part, field-part, row-of}
use Rattle.tm_ground.proofs.rows.named_row.Goals as goal

pub all_numbered-requires : goal.all_numbered-requires
all_numbered-requires c =
    rw c.as_slice-args.ensures (record {
      each = λ x h. c.requires.numbers.each x (rw c.in-Named.is (argument-part c.args.resolved.now c.in-Named.def c.in-Named.lives c.in-Named.args x h));
    })

pub numbered_fields-requires : goal.numbered_fields-requires
numbered_fields-requires c =
    rw (c.as_slice-in-Named.ensures, c.in_ok-regions-in-Named.ensures, c.as_slice.ensures, c.as_slice-args.ensures, c.written_fields-variants.ensures) (record {
      each = λ x h. c.requires.numbers.each x (rw c.in-Named.is (field-part c.args.resolved.now c.in-Named.def c.in-Named.lives c.in-Named.args x h));
    })

pub returns : goal.returns
returns c =
    rw c.in-Named.is (row-of c.args.resolved.now c.in-Named.def c.in-Named.lives c.in-Named.args _ _ _ _ _
    (c.in_ok-regions-in-Named.ensures ∙ ap (map (region_of [])) c.as_slice.ensures)
    (rw c.as_slice-args.ensures at c.in_ok-all_numbered-in-Named.ensures)
    (rw (c.as_slice-in-Named.ensures, c.as_slice-args.ensures, c.written_fields-variants.ensures) at c.in_ok-numbered_fields-in-Named.ensures))
