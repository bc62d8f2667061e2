use Rattle.std.proofs.Common.{ap, ◌∙◌, ◌≡◌, fold, map, true}
use Rattle.std.proofs.lemmas.Result.{IfOk-weaker}
use Rattle.clap.specs.Words.{app_of, with_rule}
use Rattle.clap.specs.Simple.{app_of_fields, on_top}
use Rattle.command_line.proofs.CommandLineLemmas.{with_arg}
use Rattle.terminal_options.specs.Program.{flag_rule, flags, profile_flags, program, start, value_rule, values}
use Rattle.terminal_options.proofs.command.with_options.Goals as goal

pub returns : goal.returns
unfolding program
returns c =
    let first : app_of c.after_help-command.result ≡ start = ap app_of_fields c.after_help-command.ensures
    ∙ ap app_of_fields c.about.ensures ∙ ap app_of_fields c.version.ensures
    ∙ ap (on_top (λ s. record s { has_version = true })) (ap app_of_fields c.args_override_self.ensures
    ∙ ap (on_top (λ s. record s { args_override_self = true })) (ap app_of_fields c.no_binary_name.ensures
    ∙ ap (on_top (λ s. record s { no_binary_name = true })) c.new.ensures.app)) in
    let one = with_arg _ _ _ _ _ first c.width.ensures.rule c.width.ensures.local c.in_ok-arg.ensures in
    let two = with_arg _ _ _ _ _ one c.direction.ensures.rule c.direction.ensures.local c.in_ok-command.ensures in
    let three = c.in_ok-command-2.ensures ∙ ap (λ app. fold with_rule app (map value_rule values)) two in
    let four = c.in_ok-command-3.ensures ∙ ap (λ app. fold with_rule app (map flag_rule flags)) three in
    let five = c.in_ok-command-4.ensures ∙ ap (λ app. fold with_rule app (map flag_rule profile_flags)) four in
    IfOk-weaker c.arg-3.result _ _ (λ new added. with_arg _ new _ _ _ five c.script.ensures.rule c.script.ensures.local added) c.arg-3.ensures
