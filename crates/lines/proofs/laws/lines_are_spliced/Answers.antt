use Rattle.lines.proofs.SplicingLemmas.{lines_splice}
use Rattle.lines.proofs.laws.lines_are_spliced.Goals as goal

pub returns : goal.returns
returns c = lines_splice
