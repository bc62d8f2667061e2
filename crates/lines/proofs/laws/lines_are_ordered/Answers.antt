use Rattle.lines.proofs.OrderedLemmas.{all_ordered}
use Rattle.lines.proofs.laws.lines_are_ordered.Goals as goal

pub returns : goal.returns
returns c = all_ordered
