use Rattle.std.proofs.Common.{◌≡◌, drop}
use Rattle.std.specs.List.{enumerate_from, list_any}
use Rattle.tm_names.specs.Held.{has_news, is_news}
use Rattle.tm_names.proofs.faults.closure.has_news.Given as goal

abbrev pub invariant-loop-place : goal.invariant-loop-place
invariant-loop-place l =
    list_any (is_news l.other) (enumerate_from l.place (drop l.place l.row)) ≡ has_news l.fn.row l.fn.other
