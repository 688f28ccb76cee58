use Rattle.std.proofs.Common.{append_assoc}
use Rattle.tm_report.proofs.answers.said.Goals as goal

pub returns-in_ok-format-in-NoAt : goal.returns-in_ok-format-in-NoAt
returns-in_ok-format-in-NoAt c =
    rw (c.in-NoAt.is, c.in_ok-format-in-NoAt.ensures.ok, c.rule_word-rule.ensures, c.in_ok-fault-in-NoAt.ensures, c.as_str-in-NoAt.ensures, c.in_ok-word-in-NoAt.ensures.text, c.as_slice-in-NoAt.ensures) (simp append_assoc)
