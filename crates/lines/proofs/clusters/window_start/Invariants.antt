use Rattle.std.proofs.Common.{◌≡◌, ◌<◌, ◌≤◌, ℕ, false}
use Rattle.lines.specs.Clusters.{is_split_point}
use Rattle.lines.proofs.clusters.window_start.Given as goal

abbrev pub invariant-loop-start : goal.invariant-loop-start
invariant-loop-start l = record {
  most : l.start ≤ l.k;
  nearest : (i : ℕ) → l.start < i → i ≤ l.k → is_split_point l.text i ≡ false;
}

abbrev pub decreases-loop-start : goal.decreases-loop-start
decreases-loop-start l = l.start
