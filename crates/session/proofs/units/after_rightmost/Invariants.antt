use Rattle.std.proofs.Common.{length}
use Rattle.session.proofs.ScanningLemmas.{ScansBack}
use Rattle.session.specs.Units.{is_in_unit}
use Rattle.session.proofs.units.after_rightmost.Given as goal

abbrev pub invariant-loop-place : goal.invariant-loop-place
invariant-loop-place l = ScansBack (is_in_unit l.line l.first l.end) (length l.line.vtol) l.place

abbrev pub decreases-loop-place : goal.decreases-loop-place
decreases-loop-place l = l.place
