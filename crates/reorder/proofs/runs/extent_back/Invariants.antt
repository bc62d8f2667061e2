use Rattle.std.proofs.Common.{◌<◌, ◌≤◌, slice_index, ℕ}
use Rattle.reorder.proofs.runs.extent_back.Given as goal

abbrev pub invariant-loop-start : goal.invariant-loop-start
invariant-loop-start l = record {
  back : l.start ≤ l.end;
  high : (k : ℕ) → l.start ≤ k → k < l.end → l.level ≤ slice_index l.levels k;
}

abbrev pub decreases-loop-start : goal.decreases-loop-start
decreases-loop-start l = l.start
