use Rattle.tm_refute.proofs.reading.LineLemmas.{no-line}
use Rattle.tm_refute.proofs.text.reader.Reader.line.Goals as goal

pub returns-then-not-accept : goal.returns-then-not-accept
returns-then-not-accept c = no-line c.args.self.now.rest.now c.until-line.result.now c.until-line.new.self.rest.now c.until-line.ensures.text_is c.until-line.ensures.whole c.until-line.ensures.stops c.if-not-accept.ensures.1
