use Rattle.std.proofs.Common.{◌-◌, length}
use Rattle.reorder.proofs.RunLemmas.{AlongRun}
use Rattle.reorder.proofs.order.level_run_len.Given as goal

abbrev pub invariant-loop-end : goal.invariant-loop-end
invariant-loop-end l = AlongRun l.levels l.start l.level l.«end»

abbrev pub decreases-loop-end : goal.decreases-loop-end
decreases-loop-end l = length l.levels - l.«end»

abbrev pub invariant-loop-end-2 : goal.invariant-loop-end-2
invariant-loop-end-2 l = AlongRun l.levels l.start l.level l.«end»

abbrev pub decreases-loop-end-2 : goal.decreases-loop-end-2
decreases-loop-end-2 l = length l.levels - l.«end»
