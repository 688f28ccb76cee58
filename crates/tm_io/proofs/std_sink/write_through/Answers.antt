use Rattle.std.proofs.KnownBytes.{Appends-kept}
use Rattle.tm_io.proofs.ToldLemmas.{adds_front}
use Rattle.tm_io.proofs.std_sink.write_through.Goals as goal

pub returns-in_err-flush-clause-front : goal.returns-in_err-flush-clause-front
returns-in_err-flush-clause-front g c =
    adds_front _ _ _ _ (Appends-kept _ _ _ _ c.in_ok-count.ensures.bytes c.flush.ensures.bytes)

pub returns-clause-front : goal.returns-clause-front
returns-clause-front g c =
    adds_front _ _ _ _ (Appends-kept _ _ _ _ c.in_ok-count.ensures.bytes c.flush.ensures.bytes)
