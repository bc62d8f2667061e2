use Rattle.std.proofs.Common.{◌+◌, ◌-◌}
use Rattle.reorder.proofs.OrderLemmas.{Turned}
use Rattle.reorder.proofs.order.reverse_levels.Given as goal

abbrev pub invariant-loop-level : goal.invariant-loop-level
invariant-loop-level l = Turned l.levels l.fn.items l.top l.lowest l.items l.level

abbrev pub decreases-loop-level : goal.decreases-loop-level
decreases-loop-level l = l.level + 1 - l.lowest
