use Rattle.std.proofs.Common.{◌≡◌}
use Rattle.scripts.proofs.RunLemmas.{runs_before}
use Rattle.scripts.proofs.runs.script_runs.Given as goal

-- the runs so far are those that begin before k
abbrev pub invariant-loop-k : goal.invariant-loop-k
invariant-loop-k l = l.runs.items ≡ runs_before l.scripts l.k
