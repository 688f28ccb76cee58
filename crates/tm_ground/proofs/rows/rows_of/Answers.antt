use Rattle.std.proofs.lemmas.List.Elements.{All-contains}
use Rattle.tm_ground.specs.Limits.{is_ref, OccursAs}
use Rattle.tm_ground.proofs.numbers.HasNumbersLemmas.{have-numbers}
use Rattle.tm_ground.proofs.rows.rows_of.Goals as goal

pub ref_rows-requires-clause-kind : goal.ref_rows-requires-clause-kind
ref_rows-requires-clause-kind c = λ k d l. (c.requires.refs.all.each k d l).of_kind

pub ref_rows-requires-clause-numbers : goal.ref_rows-requires-clause-numbers
ref_rows-requires-clause-numbers c =
    have-numbers c.args.resolved.now _ _ _ c.requires (λ x h. (All-contains (OccursAs is_ref c.args.resolved.now) _ x c.requires.refs.all.each h).occurs)
