use Rattle.reorder.specs.Lowest.{IsPassed}
use Rattle.reorder.proofs.runs.right_of.Given as goal

abbrev pub invariant-loop-level : goal.invariant-loop-level
invariant-loop-level l = IsPassed l.levels l.place l.level l.start l.end

abbrev pub decreases-loop-level : goal.decreases-loop-level
decreases-loop-level l = l.level
