use Rattle.std.proofs.Common.{subst, Err}
use Rattle.tm_parse.proofs.reading.Returning.{left_within}
use Rattle.tm_parse.proofs.parsing.whole_file.Goals as goal
use Rattle.tm_parse.specs.Files.{file}
use Rattle.tm_parse.specs.Parts.{Done, Stuck, Passed}
use Rattle.tm_parse.specs.Reads.{Comes}

pub place-requires : goal.place-requires
place-requires c =
    left_within c.args.terminals.now c.new-reader.result.rest.now c.new-reader.result.counts _ (Done c.in-Ok.file c.file.new.self.counts c.file.new.self.rest.now) c.new-reader.ensures.counts c.new-reader.ensures.rest c.requires c.in-Ok.ensures

pub place-requires-in-Err-Stuck : goal.place-requires-in-Err-Stuck
place-requires-in-Err-Stuck c =
    left_within c.args.terminals.now c.new-reader.result.rest.now c.new-reader.result.counts _ (Stuck c.file.new.self.rest.now) c.new-reader.ensures.counts c.new-reader.ensures.rest c.requires
    (subst (λ e. Comes ((file 0).read c.new-reader.result.counts c.new-reader.result.rest.now) c.file.new.self (Err e)) c.in-Err-Stuck.field-0-is c.in-Err-Stuck.ensures)

pub place-requires-in-Err-Passed : goal.place-requires-in-Err-Passed
place-requires-in-Err-Passed c =
    left_within c.args.terminals.now c.new-reader.result.rest.now c.new-reader.result.counts _ (Passed c.in-Err-Passed.kind c.file.new.self.rest.now) c.new-reader.ensures.counts c.new-reader.ensures.rest c.requires
    (subst (λ e. Comes ((file 0).read c.new-reader.result.counts c.new-reader.result.rest.now) c.file.new.self (Err e)) c.in-Err-Passed.field-0-is c.in-Err-Passed.ensures)
