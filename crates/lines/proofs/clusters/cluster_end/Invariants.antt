use Rattle.std.proofs.Common.{◌-◌, ◌≤◌, length}
use Rattle.lines.proofs.SegmentLemmas.{EndsBy}
use Rattle.lines.proofs.clusters.cluster_end.Given as goal

abbrev pub invariant-loop-last : goal.invariant-loop-last
invariant-loop-last l = record {
  by : EndsBy l.ends l.k l.last;
  past : l.k ≤ l.last;
}

abbrev pub decreases-loop-last : goal.decreases-loop-last
decreases-loop-last l = length l.ends - l.last
