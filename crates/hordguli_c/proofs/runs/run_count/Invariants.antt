use Rattle.std.proofs.Common.{◌≡◌, ◌+◌, length}
use Rattle.hordguli_c.specs.Runs.{runs_out}
use Rattle.hordguli_c.proofs.runs.run_count.Given as goal

-- the count so far plus the number of runs left in the iterator is the total number of runs
abbrev pub invariant-loop-run : goal.invariant-loop-run
invariant-loop-run l = l.count + length l._run-iterator ≡ length (runs_out l.levels)
