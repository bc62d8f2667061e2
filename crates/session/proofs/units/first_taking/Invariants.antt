use Rattle.std.proofs.Common.{◌-◌, ◌≤◌}
use Rattle.session.proofs.ScanningLemmas.{ScansTo}
use Rattle.session.specs.Units.{takes_columns}
use Rattle.session.proofs.units.first_taking.Given as goal

abbrev pub invariant-loop-k : goal.invariant-loop-k
invariant-loop-k l = record {
  to : ScansTo (takes_columns l.line) l.low l.end l.k;
  least : l.low ≤ l.k;
}

abbrev pub decreases-loop-k : goal.decreases-loop-k
decreases-loop-k l = l.end - l.k
