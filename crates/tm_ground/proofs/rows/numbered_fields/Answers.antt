use Rattle.std.proofs.Common.{map}
use Rattle.tm_ground.specs.Closed.{put_in}
use Rattle.tm_ground.specs.Sets.{closed_types}
use Rattle.tm_ground.proofs.finding.ContainsLemmas.{flat_map-contains}
use Rattle.tm_ground.proofs.numbers.NumberLemmas.{contains-map, numbered-more}
use Rattle.tm_ground.proofs.rows.numbered_fields.Goals as goal

pub all_numbered-requires : goal.all_numbered-requires
all_numbered-requires c =
    let there = contains-map (map (put_in c.args.regions.now (closed_types c.args.args.now))) c.args.variants.now c.loop-types.types-index c.types-item.result c.loop-types-test.true c.types-item.is in
    rw c.as_slice.ensures (record { each = λ x h. c.requires.each x (flat_map-contains (λ types. types) _ (map (put_in c.args.regions.now (closed_types c.args.args.now)) c.types-item.result) x there h) })

pub loop-types-preserved : goal.loop-types-preserved
loop-types-preserved c =
    numbered-more _ (map (put_in c.args.regions.now (closed_types c.args.args.now))) c.args.variants.now c.loop-types.types-index _ _ c.types-item.result _ c.loop-types-test.true c.types-item.is c.loop-types.invariant (rw c.as_slice.ensures at c.in_ok-all_numbered.ensures) c.in_ok-add.ensures.added
