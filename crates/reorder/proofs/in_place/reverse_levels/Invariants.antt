use Rattle.std.proofs.Common.{◌+◌, ◌-◌}
use Rattle.reorder.proofs.InPlaceLemmas.{TurnedInPlace}
use Rattle.reorder.proofs.in_place.reverse_levels.Given as goal

abbrev pub invariant-loop-level : goal.invariant-loop-level
invariant-loop-level l = TurnedInPlace l.levels l.fn.items l.top l.low l.items l.level

abbrev pub decreases-loop-level : goal.decreases-loop-level
decreases-loop-level l = l.level + 1 - l.low
