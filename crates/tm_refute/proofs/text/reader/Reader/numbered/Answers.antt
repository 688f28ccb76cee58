use Rattle.tm_refute.proofs.forms.NumberLemmas.{number-behind}
use Rattle.tm_refute.proofs.text.reader.Reader.numbered.Goals as goal

pub returns : goal.returns
returns c = number-behind c.args.text.now c.args.self.now.rest.now c.accept.new.self.rest.now c.number.new.self.rest.now c.number.result c.if-not-accept.ensures c.number.ensures
