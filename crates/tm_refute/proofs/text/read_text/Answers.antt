use Rattle.tm_refute.proofs.reading.ReadBackLemmas.{all-writable}
use Rattle.tm_refute.proofs.reading.TextLemmas.{all-read, all-told}
use Rattle.tm_refute.proofs.text.read_text.Goals as goal

pub returns-clause-read : goal.returns-clause-read
returns-clause-read c = all-read c.args.pointer c.args.bytes.now c.lines.result c.lines.ensures

pub returns-clause-told : goal.returns-clause-told
returns-clause-told c = all-told c.args.pointer c.args.bytes.now c.lines.result c.lines.ensures

pub returns-clause-writable : goal.returns-clause-writable
returns-clause-writable c = all-writable c.args.pointer c.requires.pointer c.args.bytes.now c.lines.result c.lines.ensures
