use Rattle.std.proofs.Common.{refl}
use Rattle.tm_refute.proofs.forms.NumberLemmas.{text-is, text-not}
use Rattle.tm_refute.proofs.text.reader.Reader.accept.Goals as goal

pub returns-in-Some : goal.returns-in-Some
returns-in-Some c = text-is c.args.text.now c.args.self.now.rest.now c.in-Some.rest.now c.in-Some.ensures.cases.0 c.in-Some.ensures.cases.1

pub returns-in-None : goal.returns-in-None
returns-in-None c = (refl, text-not c.args.text.now c.args.self.now.rest.now c.in-None.ensures.cases)
