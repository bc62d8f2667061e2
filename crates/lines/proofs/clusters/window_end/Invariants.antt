use Rattle.std.proofs.Common.{◌≡◌, ◌-◌, ◌<◌, ◌≤◌, ℕ, false, length}
use Rattle.lines.specs.Clusters.{is_split_point}
use Rattle.lines.proofs.clusters.window_end.Given as goal

abbrev pub invariant-loop-end : goal.invariant-loop-end
invariant-loop-end l = record {
  past : l.k < l.end;
  most : l.end ≤ length l.text;
  nearest : (i : ℕ) → l.k < i → i < l.end → is_split_point l.text i ≡ false;
}

abbrev pub decreases-loop-end : goal.decreases-loop-end
decreases-loop-end l = length l.text - l.end
