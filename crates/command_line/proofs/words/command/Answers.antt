use Rattle.std.proofs.Common.{ap, ◌∙◌, ◌≡◌, fold, true}
use Rattle.std.proofs.lemmas.Result.{IfOk-weaker}
use Rattle.clap.specs.Words.{app_of, with_rule}
use Rattle.clap.specs.Simple.{app_of_fields, on_top}
use Rattle.command_line.specs.CommandLine.{layout_rules, print_rules, program, queries_rule, start}
use Rattle.command_line.proofs.CommandLineLemmas.{with_arg}
use Rattle.command_line.proofs.words.command.Goals as goal

pub returns : goal.returns
unfolding program
returns c =
    let first : app_of c.after_help-command.result ≡ start = ap app_of_fields c.after_help-command.ensures
    ∙ ap app_of_fields c.about.ensures ∙ ap app_of_fields c.version.ensures
    ∙ ap (on_top (λ s. record s { has_version = true })) (ap app_of_fields c.no_binary_name.ensures ∙ ap (on_top (λ s. record s { no_binary_name = true })) c.new.ensures.app) in
    let layout = c.in_ok-command.ensures ∙ ap (λ app. fold with_rule app layout_rules) first in
    let print = c.in_ok-command-2.ensures ∙ ap (λ app. fold with_rule app print_rules) layout in
    let script = with_arg _ _ _ _ _ print c.script.ensures.rule c.script.ensures.local c.in_ok-command-3.ensures in
    let queries = c.in_ok-command-4.ensures ∙ ap (λ app. with_rule app queries_rule) script in
    IfOk-weaker c.arg-2.result _ _ (λ new added. with_arg _ new _ _ _ queries c.files.ensures.rule c.files.ensures.local added) c.arg-2.ensures
