use Rattle.std.proofs.Common.{◌∙◌}
use Rattle.tm_refs.proofs.WalkLemmas.{empty-list, startless}
use Rattle.tm_refs.proofs.casts.has_no_word.Goals as goal

pub returns : goal.returns
returns c =
    startless c.args.source.now c.law.ensures.reads c.is_empty.result
    (empty-list c.is_empty.result c.as_slice.result.now c.args.source.now.starts (c.as_slice.ensures.states ∙ c.in_ok-starts.ensures.starts) c.is_empty.ensures)
