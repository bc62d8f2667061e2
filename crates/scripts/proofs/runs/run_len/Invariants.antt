use Rattle.std.proofs.Common.{◌≡◌, ◌+◌, ◌-◌, ◌≤◌, length, drop}
use Rattle.std.specs.List.{prefix_len}
use Rattle.ucd_script.specs.Script.{script_eq}
use Rattle.scripts.specs.Runs.{script_at}
use Rattle.scripts.proofs.runs.run_len.Given as goal

-- the run consists of the characters so far and the directly following characters that have the run's script
abbrev pub invariant-loop-end : goal.invariant-loop-end
invariant-loop-end l =
    let is_same = script_eq (script_at l.scripts l.start) in (
    (l.script ≡ script_at l.scripts l.start) × (l.start ≤ l.end) × (l.end ≤ length l.scripts)
    × (prefix_len is_same (drop l.start l.scripts) ≡ l.end - l.start + prefix_len is_same (drop l.end l.scripts))
    )

abbrev pub decreases-loop-end : goal.decreases-loop-end
decreases-loop-end l = length l.scripts - l.end
