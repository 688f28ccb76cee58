use Rattle.tm_refute.proofs.reading.HeaderLemmas.{top-behind}
use Rattle.tm_refute.proofs.text.header.top.Goals as goal

pub returns : goal.returns
returns c = top-behind c.args.pointer c.args.text.now c.accept.new.self.rest.now c.piece.result c.if-not-accept.ensures c.piece.ensures
