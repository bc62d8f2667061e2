use Rattle.std.proofs.Common.{take}
use Rattle.reorder.proofs.RunLemmas.{RunsLaid}
use Rattle.reorder.proofs.order.lay_runs.Given as goal

abbrev pub invariant-loop-left : goal.invariant-loop-left
invariant-loop-left l = RunsLaid l.levels (take l.count l.fn.items) l.fn.items l.items l.left l.«end»

abbrev pub decreases-loop-left : goal.decreases-loop-left
decreases-loop-left l = l.left
