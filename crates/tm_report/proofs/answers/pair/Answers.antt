use Rattle.std.proofs.Common.{◌≡◌, ◌∙◌, sym, ap, append_assoc, ℕ, List, ◌++◌}
use Rattle.std.specs.Prelude.{codes, decimal}
use Rattle.tm_report.specs.AnswerLines.{depth_text}
use Rattle.tm_report.specs.WordTexts.{reference_text}
use Rattle.tm_report.proofs.answers.pair.Goals as goal

-- four texts joined, from either end
joined : (a b c d e : List ℕ) → a ++ (b ++ (c ++ (d ++ e))) ≡ a ++ b ++ c ++ d ++ e
joined a b c d e = sym (append_assoc (a ++ b ++ c) d e ∙ append_assoc (a ++ b) c (d ++ e) ∙ append_assoc a b (c ++ (d ++ e)))

pub returns : goal.returns
returns c =
    c.in_ok-format.ensures.ok
    ∙ rw c.in_ok-depth.ensures (ap (λ text. codes " (&" ++ text) (joined (decimal c.args.source.0) (codes " to ") (reference_text c.args.target) (depth_text c.args.depth) (codes ")")))
