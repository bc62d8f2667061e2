use Rattle.reorder.proofs.SpaceLemmas.{Walked}
use Rattle.reorder.proofs.spaces.reset_levels.Given as goal

abbrev pub invariant-loop-at : goal.invariant-loop-at
invariant-loop-at g l = Walked l.base (g.C.Classes.all l.line) l.fn.levels l.levels l.resets l.at

abbrev pub decreases-loop-at : goal.decreases-loop-at
decreases-loop-at g l = l.at
