use Rattle.std.proofs.Common.{◌-◌, length}
use Rattle.tm_parse.proofs.reading.ItemsBySort.{Keeps, all_items}
use Rattle.tm_parse.proofs.reader.Reader.file.Given as goal

abbrev pub invariant-loop : goal.invariant-loop
invariant-loop l =
    Keeps (all_items l.fn.self.counts l.fn.self.rest.now) l.file (length l.fn.self.rest.now - l.counter) l.self.counts l.self.rest.now
