use Rattle.std.proofs.Common.{ap, sym, ◌∙◌, ◌≡◌, true, false, refl}
use Rattle.std.proofs.lemmas.Result.{IfOk-weaker}
use Rattle.clap.specs.Words.{with_rule}
use Rattle.command_line.proofs.CommandLineLemmas.{with_arg}
use Rattle.terminal_options.specs.Program.{files_rule, program}
use Rattle.terminal_options.proofs.command.command.Goals as goal

with_files : with_rule (program false) files_rule ≡ program true
unfolding program
with_files = refl

pub returns-then-files : goal.returns-then-files
returns-then-files c =
    IfOk-weaker c.arg.result _ _ (λ new added. with_arg _ new _ _ _ c.in_ok-command.ensures c.texts.ensures.rule c.texts.ensures.local added
    ∙ with_files ∙ ap program (sym c.if-files.true)) c.arg.ensures

pub returns-else-files : goal.returns-else-files
returns-else-files c = c.in_ok-command.ensures ∙ ap program (sym c.if-files.false)
