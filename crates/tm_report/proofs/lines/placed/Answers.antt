use Rattle.std.proofs.Common.{rules, append_assoc}
use Rattle.tm_report.proofs.lines.placed.Goals as goal

pub returns : goal.returns
returns c = search (rules, append_assoc)
