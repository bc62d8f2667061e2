use Rattle.std.proofs.Common.{◌-◌, length}
use Rattle.reorder.proofs.RunLemmas.{RunsWritten}
use Rattle.reorder.proofs.mirror.visual_runs.Given as goal

abbrev pub invariant-loop-k : goal.invariant-loop-k
invariant-loop-k l = RunsWritten l.tables l.levels l.line l.runs l.chars l.k l.at

abbrev pub decreases-loop-k : goal.decreases-loop-k
decreases-loop-k l = length l.runs - l.k
