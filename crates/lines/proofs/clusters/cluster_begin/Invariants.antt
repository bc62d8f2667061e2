use Rattle.std.proofs.Common.{◌≤◌}
use Rattle.lines.proofs.SegmentLemmas.{BeginsBy}
use Rattle.lines.proofs.clusters.cluster_begin.Given as goal

abbrev pub invariant-loop-start : goal.invariant-loop-start
invariant-loop-start l = record {
  by : BeginsBy l.ends l.k l.start;
  most : l.start ≤ l.k;
}

abbrev pub decreases-loop-start : goal.decreases-loop-start
decreases-loop-start l = l.start
