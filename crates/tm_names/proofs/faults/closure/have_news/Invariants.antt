use Rattle.std.proofs.Common.{◌≡◌, drop}
use Rattle.std.specs.List.{enumerate_from, list_any}
use Rattle.tm_names.specs.Held.{have_news, is_row_news}
use Rattle.tm_names.proofs.faults.closure.have_news.Given as goal

abbrev pub invariant-loop-place : goal.invariant-loop-place
invariant-loop-place l =
    list_any (is_row_news l.others) (enumerate_from l.place (drop l.place l.rows)) ≡ have_news l.fn.rows l.fn.others
