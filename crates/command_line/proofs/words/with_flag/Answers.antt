use Rattle.std.proofs.Common.{refl}
use Rattle.std.proofs.lemmas.Result.{IfOk-weaker}
use Rattle.command_line.proofs.CommandLineLemmas.{with_arg}
use Rattle.command_line.proofs.words.with_flag.Goals as goal

pub returns : goal.returns
returns c = IfOk-weaker c.arg.result _ _ (λ new added. with_arg _ new _ _ _ refl c.flag.ensures.rule c.flag.ensures.local added) c.arg.ensures
