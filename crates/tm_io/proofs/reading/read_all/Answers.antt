use Rattle.std.proofs.Common.{arith, length-append, length-take, ℕ}
use Rattle.std.proofs.KnownBytes.{Consumes-trans}
use Rattle.tm_io.proofs.ToldLemmas.{takes_at_most}
use Rattle.tm_io.proofs.reading.read_all.Goals as goal

pub returns-then-is_err-clause-taken : goal.returns-then-is_err-clause-taken
returns-then-is_err-clause-taken g c =
    takes_at_most _ _ _ _ (Consumes-trans _ _ _ _ _ c.loop-piece.invariant.taken c.in-Ok.ensures.bytes.0)
    (simp length-append (omega (arith, c.in-Ok.ensures.bound, length-take {A = ℕ})))
