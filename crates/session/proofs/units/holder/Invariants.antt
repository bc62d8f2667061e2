use Rattle.std.proofs.Common.{◌-◌, ◌≤◌, ◌&&◌, nat_le, suc}
use Rattle.session.proofs.ScanningLemmas.{ScansBack}
use Rattle.session.specs.Units.{takes_columns}
use Rattle.session.proofs.units.holder.Given as goal

abbrev pub invariant-loop-end : goal.invariant-loop-end
invariant-loop-end l = record {
  back : ScansBack (λ j. nat_le (l.fn.cluster.start - l.fn.start) j && takes_columns l.line j) (suc l.k) l.end;
  most : l.end ≤ suc l.k;
}

abbrev pub decreases-loop-end : goal.decreases-loop-end
decreases-loop-end l = l.end
