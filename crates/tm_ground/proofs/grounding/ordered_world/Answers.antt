use Rattle.std.proofs.lemmas.Result.{IfOk-weaker}
use Rattle.tm_ground.specs.Sets.{closed_types}
use Rattle.tm_ground.proofs.world.BelongsLemmas.{belongs}
use Rattle.tm_ground.proofs.world.RowLemmas.{all-rows, world-of}
use Rattle.tm_ground.proofs.grounding.ordered_world.Goals as goal

pub make_world-requires-clause-whole : goal.make_world-requires-clause-whole
make_world-requires-clause-whole c = all-rows c.in_ok-ordered.ensures.whole c.in_ok-rows.ensures

pub returns : goal.returns
returns c =
    let ordered = c.in_ok-ordered.ordered in
    let types = closed_types ordered.named in
    let refs = closed_types ordered.refs in
    let whole = c.in_ok-ordered.ensures.whole in
    IfOk-weaker c.make_world.result _ _
    (λ world has. belongs c.args.resolved.now c.requires.form types refs whole world (world-of _ types refs _ _ c.in_ok-rows.ensures has) c.requires.names c.in_ok-ordered.ensures.named c.in_ok-ordered.ensures.refs)
    c.make_world.ensures
