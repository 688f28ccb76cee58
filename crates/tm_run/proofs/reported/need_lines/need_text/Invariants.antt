use Rattle.std.proofs.Common.{◌≡◌, ◌++◌, codes, drop}
use Rattle.std.specs.List.{flat_map}
use Rattle.tm_run.specs.Needs.{need_text, set_text}
use Rattle.tm_run.proofs.reported.need_lines.need_text.Given as goal

abbrev pub invariant-loop-set : goal.invariant-loop-set
invariant-loop-set l = l.text ++ flat_map (λ next. codes " or " ++ set_text next) (drop l.set-index l.others) ≡ need_text l.sets
