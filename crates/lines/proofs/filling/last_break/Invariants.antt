use Rattle.std.proofs.Common.{◌≡◌, ◌≤◌}
use Rattle.bidi.specs.Brackets.{greatest}
use Rattle.lines.specs.Filling.{may_end}
use Rattle.lines.proofs.filling.last_break.Given as goal

abbrev pub invariant-loop-k : goal.invariant-loop-k
invariant-loop-k l = record {
  within : l.k ≤ l.len;
  skipped : greatest (may_end l.rest) l.len ≡ greatest (may_end l.rest) l.k;
}

abbrev pub decreases-loop-k : goal.decreases-loop-k
decreases-loop-k l = l.k
