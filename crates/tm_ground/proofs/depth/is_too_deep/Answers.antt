use Rattle.tm_ground.proofs.sizes.DeepLemmas.{tells}
use Rattle.tm_ground.proofs.depth.is_too_deep.Goals as goal

pub returns : goal.returns
returns c = λ resolved all.
    let rows = c.args.rows.now in
    let tell = rw c.as_slice.ensures at c.in_ok-depths.ensures in
    tells resolved all.types all.refs all.whole c.in_ok-depths.depths.tables (tell.each resolved all.types all.refs all.rows.named) rows.named rows.refs rows.questions
    all.rows.named all.rows.ref_rows all.rows.questions _ c.is_some_deep.ensures
