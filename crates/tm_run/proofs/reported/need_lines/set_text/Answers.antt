use Rattle.std.proofs.Common.{◌∙◌, ap, codes}
use Rattle.tm_run.specs.NeedTexts.{or_nothing, with_flag}
use Rattle.tm_run.proofs.answers.NeedTextLemmas.{flags-told}
use Rattle.tm_run.proofs.reported.need_lines.set_text.Goals as goal

pub returns : goal.returns
returns c =
    let set = c.args.set in
    c.in_ok-say_nothing.ensures
    ∙ ap or_nothing (c.in_ok-add_flag-4.ensures
    ∙ ap (λ text. with_flag text set.validity (codes "validity")) (c.in_ok-add_flag-3.ensures
    ∙ ap (λ text. with_flag text set.safety (codes "safety")) (c.in_ok-add_flag-2.ensures
    ∙ ap (λ text. with_flag text set.lifetimes (codes "lifetimes")) (c.in_ok-add_flag.ensures
    ∙ ap (λ text. with_flag text set.alignment (codes "alignment")) c.new-text.ensures))))
    ∙ flags-told set.alignment set.lifetimes set.safety set.validity
