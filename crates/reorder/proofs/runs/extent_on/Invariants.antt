use Rattle.std.proofs.Common.{◌<◌, ◌≤◌, ◌-◌, length, slice_index, ℕ}
use Rattle.reorder.proofs.runs.extent_on.Given as goal

abbrev pub invariant-loop-end : goal.invariant-loop-end
invariant-loop-end l = record {
  on : l.start ≤ l.end;
  within : l.end ≤ length l.levels;
  high : (k : ℕ) → l.start ≤ k → k < l.end → l.level ≤ slice_index l.levels k;
}

abbrev pub decreases-loop-end : goal.decreases-loop-end
decreases-loop-end l = length l.levels - l.end
