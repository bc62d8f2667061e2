use Rattle.lines.proofs.RefillingLemmas.{starts_stay}
use Rattle.lines.proofs.laws.earlier_lines_stay.Goals as goal

pub returns : goal.returns
returns c = starts_stay
