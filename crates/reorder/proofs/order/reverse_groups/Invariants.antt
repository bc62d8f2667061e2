use Rattle.std.proofs.Common.{◌-◌, length}
use Rattle.reorder.specs.Order.{has_base}
use Rattle.reorder.proofs.GroupLemmas.{Grouped}
use Rattle.reorder.proofs.order.reverse_groups.Given as goal

abbrev pub invariant-loop-start : goal.invariant-loop-start
invariant-loop-start g l = Grouped (has_base (g.C.Classes.all l.line) l.levels) l.fn.vtol l.vtol l.start

abbrev pub decreases-loop-start : goal.decreases-loop-start
decreases-loop-start g l = length l.initial.vtol - l.start
