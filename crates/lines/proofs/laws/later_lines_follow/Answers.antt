use Rattle.lines.proofs.RefillingLemmas.{starts_follow}
use Rattle.lines.proofs.laws.later_lines_follow.Goals as goal

pub returns : goal.returns
returns c = starts_follow
