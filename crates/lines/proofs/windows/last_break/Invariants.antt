use Rattle.std.proofs.Common.{◌≤◌, length}
use Rattle.lines.proofs.windows.last_break.Given as goal

abbrev pub invariant-loop-k : goal.invariant-loop-k
invariant-loop-k l = record {
  most : l.k ≤ l.to;
  within : l.k ≤ length l.marks;
}

abbrev pub decreases-loop-k : goal.decreases-loop-k
decreases-loop-k l = l.k
