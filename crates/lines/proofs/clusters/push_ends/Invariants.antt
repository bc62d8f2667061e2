use Rattle.std.proofs.Common.{◌-◌, ◌≡◌, ◌++◌, [], ◌∷◌, true, false, replicate}
use Rattle.lines.specs.Clusters.{ends_of}
use Rattle.lines.proofs.clusters.push_ends.Given as goal

-- the ends so far, followed by those of the remaining characters, are the ends before the call followed by
-- those of the cluster
abbrev pub invariant-loop-left : goal.invariant-loop-left
invariant-loop-left l = l.ends.items ++ (replicate (l.left - 1) false ++ true ∷ []) ≡ l.fn.ends.items ++ ends_of l.cluster

abbrev pub decreases-loop-left : goal.decreases-loop-left
decreases-loop-left l = l.left - 1
