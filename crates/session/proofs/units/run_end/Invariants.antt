use Rattle.std.proofs.Common.{◌-◌, ◌≤◌, length}
use Rattle.session.proofs.ScanningLemmas.{ScansTo}
use Rattle.session.specs.Units.{is_at_other}
use Rattle.session.proofs.units.run_end.Given as goal

abbrev pub invariant-loop-end : goal.invariant-loop-end
invariant-loop-end l = record {
  to : ScansTo (is_at_other l.line l.k) l.k (length l.line.levels) l.end;
  least : l.k ≤ l.end;
}

abbrev pub decreases-loop-end : goal.decreases-loop-end
decreases-loop-end l = l.len - l.end
