use Rattle.std.proofs.Common.{◌-◌, length}
use Rattle.reorder.specs.Order.{is_at_least}
use Rattle.reorder.proofs.OrderLemmas.{Reversed}
use Rattle.reorder.proofs.order.reverse_runs.Given as goal

abbrev pub invariant-loop-start : goal.invariant-loop-start
invariant-loop-start l = Reversed (is_at_least l.levels l.level) l.fn.items l.items l.start

abbrev pub decreases-loop-start : goal.decreases-loop-start
decreases-loop-start l = length l.initial.items - l.start
