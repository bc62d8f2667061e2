use Rattle.std.proofs.Common.{◌-◌, length}
use Rattle.std.specs.Prelude.{nat_le}
use Rattle.reorder.proofs.InPlaceLemmas.{Flagged}
use Rattle.reorder.proofs.in_place.reverse_runs.Given as goal

abbrev pub invariant-loop-start : goal.invariant-loop-start
invariant-loop-start l = Flagged (nat_le l.level) l.levels l.fn.items l.items l.start

abbrev pub decreases-loop-start : goal.decreases-loop-start
decreases-loop-start l = length l.levels - l.start
