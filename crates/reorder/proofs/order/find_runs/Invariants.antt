use Rattle.std.proofs.Common.{◌-◌, length}
use Rattle.reorder.proofs.LevelLemmas.{Extremes}
use Rattle.reorder.proofs.RunLemmas.{RunsFound}
use Rattle.reorder.proofs.WholeRunLemmas.{RunsCounted}
use Rattle.reorder.proofs.order.find_runs.Given as goal

abbrev pub invariant-loop-start : goal.invariant-loop-start
invariant-loop-start l = record {
  found : RunsFound l.levels l.items l.count l.start;
  counted : RunsCounted l.levels l.count l.start;
  extremes : Extremes l.levels l.start l.highest l.lowest;
}

abbrev pub decreases-loop-start : goal.decreases-loop-start
decreases-loop-start l = length l.levels - l.start
