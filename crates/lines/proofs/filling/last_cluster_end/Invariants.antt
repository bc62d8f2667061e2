use Rattle.std.proofs.Common.{◌≡◌, ◌≤◌}
use Rattle.bidi.specs.Brackets.{greatest}
use Rattle.lines.specs.Filling.{cluster_ends_at}
use Rattle.lines.proofs.filling.last_cluster_end.Given as goal

abbrev pub invariant-loop-k : goal.invariant-loop-k
invariant-loop-k l = record {
  within : l.k ≤ l.len;
  skipped : greatest (cluster_ends_at l.rest) l.len ≡ greatest (cluster_ends_at l.rest) l.k;
}

abbrev pub decreases-loop-k : goal.decreases-loop-k
decreases-loop-k l = l.k
