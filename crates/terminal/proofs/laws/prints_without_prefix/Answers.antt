use Rattle.terminal.proofs.PlainLemmas.{without_prefix}
use Rattle.terminal.proofs.laws.prints_without_prefix.Goals as goal

pub returns : goal.returns
returns c = without_prefix
