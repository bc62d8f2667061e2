use Rattle.lines.proofs.AdjoinLemmas.{all_adjoin}
use Rattle.lines.proofs.laws.runs_adjoin.Goals as goal

pub returns : goal.returns
returns c = all_adjoin
