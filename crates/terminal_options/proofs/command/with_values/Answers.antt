use Rattle.std.proofs.Common.{refl}
use Rattle.std.proofs.lemmas.Result.{IfOk-weaker}
use Rattle.command_line.proofs.CommandLineLemmas.{with_arg}
use Rattle.terminal_options.proofs.command.with_values.Goals as goal

pub returns : goal.returns
returns c =
    let one = with_arg _ _ _ _ _ refl c.value.ensures.rule c.value.ensures.local c.in_ok-command.ensures in
    let two = with_arg _ _ _ _ _ one c.value-2.ensures.rule c.value-2.ensures.local c.in_ok-command-2.ensures in
    let three = with_arg _ _ _ _ _ two c.value-3.ensures.rule c.value-3.ensures.local c.in_ok-command-3.ensures in
    let four = with_arg _ _ _ _ _ three c.value-4.ensures.rule c.value-4.ensures.local c.in_ok-command-4.ensures in
    let five = with_arg _ _ _ _ _ four c.value-5.ensures.rule c.value-5.ensures.local c.in_ok-command-5.ensures in
    IfOk-weaker c.arg-6.result _ _ (λ new added. with_arg _ new _ _ _ five c.value-6.ensures.rule c.value-6.ensures.local added) c.arg-6.ensures
