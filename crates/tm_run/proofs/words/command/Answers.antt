-- The command that clap is given.
use Rattle.std.proofs.Common.{◌≡◌, ◌∙◌, true, false, List, ℕ, ap, ap₂, rules, codes}
use Rattle.std.proofs.lemmas.Result.{IfOk-weaker}
use Rattle.clap.specs.Built.{AddsArg}
use Rattle.clap.specs.Simple.{App, app_of, app_of_fields, new_app, on_top, with_rule}
use Rattle.clap.specs.Walk.{rule_of}
use Rattle.clap.specs.declared.builder.arg.Arg.{Arg}
use Rattle.clap.specs.declared.builder.command.Command.{Command}
use Rattle.tm_run.specs.Commands.{rule_with}
use Rattle.tm_run.specs.Uses.{options}
use Rattle.tm_run.proofs.words.command.Goals as goal

-- one option more
with-option : (old new : Command) (a : Arg) (name : List ℕ) (values : ℕ) (app : App) → AddsArg old a new → a.global ≡ false → rule_of a ≡ rule_with name values → app_of old ≡ app
    → app_of new ≡ with_rule app (rule_with name values)
with-option old new a name values app adds local rule is = adds.shape local ∙ ap₂ with_rule is rule

abbrev plain : App
plain = on_top (λ s. record s { no_binary_name = true; disable_help_flag = true; disable_version_flag = true }) (new_app (codes "transmute_report"))

pub returns : goal.returns
unfolding options
returns c =
    let start : app_of c.disable_version_flag.result ≡ plain =
    ap app_of_fields c.disable_version_flag.ensures ∙ ap (λ f. app_of_fields (record f { disable_version_flag = true })) c.disable_help_flag.ensures
    ∙ ap (λ f. app_of_fields (record f { disable_help_flag = true; disable_version_flag = true })) c.no_binary_name.ensures
    ∙ ap (on_top (λ s. record s { no_binary_name = true; disable_help_flag = true; disable_version_flag = true })) c.new.ensures.app in
    let summary = with-option _ _ c.option.result (codes "summary") 0 _ c.in_ok-arg.ensures c.option.ensures.local (search rules) start in
    let generate = with-option _ _ c.option-2.result (codes "generate") 1 _ c.in_ok-arg-2.ensures c.option-2.ensures.local (search rules) summary in
    let profile = with-option _ _ c.option-3.result (codes "profile") 1 _ c.in_ok-arg-3.ensures c.option-3.ensures.local (search rules) generate in
    let needs = with-option _ _ c.option-4.result (codes "needs") 0 _ c.in_ok-arg-4.ensures c.option-4.ensures.local (search rules) profile in
    let matrix = with-option _ _ c.option-5.result (codes "matrix") 0 _ c.in_ok-arg-5.ensures c.option-5.ensures.local (search rules) needs in
    let bytes = with-option _ _ c.option-6.result (codes "bytes") 1 _ c.in_ok-arg-6.ensures c.option-6.ensures.local (search rules) matrix in
    let refute = with-option _ _ c.option-7.result (codes "refute") 1 _ c.in_ok-arg-7.ensures c.option-7.ensures.local (search rules) bytes in
    IfOk-weaker c.arg-8.result _ _ (λ command adds. with-option _ command c.option-8.result (codes "verify") 0 _ adds c.option-8.ensures.local (search rules) refute) c.arg-8.ensures
