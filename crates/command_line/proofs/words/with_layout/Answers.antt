use Rattle.std.proofs.Common.{◌∙◌, ap, fold, map, refl, ◌∷◌, [], codes}
use Rattle.std.proofs.lemmas.Result.{IfOk-weaker}
use Rattle.clap.specs.Words.{with_rule}
use Rattle.command_line.specs.CommandLine.{flag_rule}
use Rattle.command_line.proofs.CommandLineLemmas.{with_arg}
use Rattle.command_line.proofs.words.with_layout.Goals as goal

pub returns : goal.returns
returns c =
    let one = with_arg _ _ _ _ _ refl c.ucd.ensures.rule c.ucd.ensures.local c.in_ok-arg.ensures in
    let two = with_arg _ _ _ _ _ one c.width.ensures.rule c.width.ensures.local c.in_ok-command.ensures in
    let three = with_arg _ _ _ _ _ two c.tabs.ensures.rule c.tabs.ensures.local c.in_ok-arg-2.ensures in
    let four = with_arg _ _ _ _ _ three c.unicode.ensures.rule c.unicode.ensures.local c.in_ok-command-2.ensures in
    let flags = map flag_rule (codes "rtl" ∷ codes "ltr" ∷ codes "wrtl" ∷ codes "wltr" ∷ codes "nobreak" ∷ codes "reordernsm" ∷ codes "whole-numbers" ∷ codes "reorder-clusters" ∷ codes "show-spaces" ∷ codes "line-separators" ∷ []) in
    IfOk-weaker c.with_flags.result _ _ (λ new is. is ∙ ap (λ app. fold with_rule app flags) four) c.with_flags.ensures
