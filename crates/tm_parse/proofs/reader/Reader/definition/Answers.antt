use Rattle.std.proofs.Common.{subst, sym}
use Rattle.tm_parse.proofs.grammar.BehindAttributes.{both_read}
use Rattle.tm_parse.proofs.reader.Reader.definition.Goals as goal
use Rattle.tm_parse.specs.Definitions.{attribute, headed_any, together, visibility}
use Rattle.tm_parse.specs.Reads.{Comes}
use Rattle.tm_parse.specs.Shapes.{many, optional}

pub returns : goal.returns
returns c =
    let same = both_read together (optional visibility).read (headed_any 0).read ((many attribute).read c.args.self.now.counts c.args.self.now.rest.now) _ _ _ _ _ _ c.in_ok-reprs.ensures c.in_ok-optional_visibility.ensures in
    subst (λ o. Comes o c.headed_any.new.self c.headed_any.result) (sym same) c.headed_any.ensures
