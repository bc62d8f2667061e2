use Rattle.std.proofs.Common.{map}
use Rattle.hordguli_c.specs.Runs.{run_out, runs_out}
use Rattle.hordguli_c.proofs.SpanLemmas.{IsPut}
use Rattle.hordguli_c.proofs.runs.put_each_run.Given as goal

-- the first k runs are in the array, and the iterator will yield the other runs
abbrev pub invariant-loop-run : goal.invariant-loop-run
invariant-loop-run l = IsPut (runs_out l.levels) l.fn.array (map run_out l.run-iterator) l.array l.k
