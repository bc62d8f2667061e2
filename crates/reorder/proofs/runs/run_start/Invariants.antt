use Rattle.std.proofs.Common.{◌≡◌, ◌≤◌, slice_index, ℕ}
use Rattle.reorder.proofs.runs.run_start.Given as goal

abbrev pub invariant-loop-start : goal.invariant-loop-start
invariant-loop-start l = record {
  to : l.start ≤ l.place;
  same : (k : ℕ) → l.start ≤ k → k ≤ l.place → slice_index l.levels k ≡ l.level;
}

abbrev pub decreases-loop-start : goal.decreases-loop-start
decreases-loop-start l = l.start
