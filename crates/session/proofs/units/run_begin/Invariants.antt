use Rattle.std.proofs.Common.{◌≤◌}
use Rattle.session.proofs.ScanningLemmas.{ScansBack}
use Rattle.session.specs.Units.{is_at_other}
use Rattle.session.proofs.units.run_begin.Given as goal

abbrev pub invariant-loop-begin : goal.invariant-loop-begin
invariant-loop-begin l = record {
  back : ScansBack (is_at_other l.line l.k) l.k l.begin;
  most : l.begin ≤ l.k;
}

abbrev pub decreases-loop-begin : goal.decreases-loop-begin
decreases-loop-begin l = l.begin
