use Rattle.lines.proofs.RefillingLemmas.{starts_splice}
use Rattle.lines.proofs.laws.line_starts_are_spliced.Goals as goal

pub returns : goal.returns
returns c = starts_splice
