use Rattle.std.proofs.Common.{◌≡◌, ℕ, ◌+◌, ◌-◌, ◌<◌, ◌≤◌, length, get_or}
use Rattle.ucd.specs.Answers.{unnamed}
use Rattle.ucd.specs.Layers.{Layers}
use Rattle.ucd.specs.Runs.{ReachesTo}
use Rattle.ucd.specs.Said.{said}
use Rattle.ucd.proofs.pages.fill.Given as goal

-- the run reaches `point`, and the page holds the properties of the code points before it
abbrev pub invariant-loop-point : goal.invariant-loop-point
invariant-loop-point l = record {
  len : length l.page ≡ 256;
  from : l.start ≤ l.point;
  to : l.point ≤ l.start + 256;
  run : (l.runs.run.start ≤ l.point) × (l.point ≤ l.runs.run.end) × (l.runs.run.end ≤ 1114112);
  reaches : (k : Layers) → ReachesTo k l.fn.runs l.start → ReachesTo k l.runs l.point;
  filled : (k : Layers) → ReachesTo k l.fn.runs l.start → (i : ℕ) → i < l.point - l.start → get_or l.page i unnamed ≡ said k (l.start + i);
}

abbrev pub decreases-loop-point : goal.decreases-loop-point
decreases-loop-point l = l.start + 256 - l.point
