use Rattle.reorder.proofs.LeftmostLemmas.{LeftmostBack}
use Rattle.reorder.proofs.runs.leftmost_back.Given as goal

abbrev pub invariant-loop-at : goal.invariant-loop-at
invariant-loop-at l = LeftmostBack l.levels l.level l.end l.first l.low l.at

abbrev pub decreases-loop-at : goal.decreases-loop-at
decreases-loop-at l = l.at
