use Rattle.std.proofs.Common.{◌-◌, length}
use Rattle.reorder.proofs.LeftmostLemmas.{LeftmostOn}
use Rattle.reorder.proofs.runs.leftmost_on.Given as goal

abbrev pub invariant-loop-at : goal.invariant-loop-at
invariant-loop-at l = LeftmostOn l.levels l.level l.start l.first l.low l.at

abbrev pub decreases-loop-at : goal.decreases-loop-at
decreases-loop-at l = length l.levels - l.at
