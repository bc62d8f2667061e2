use Rattle.std.proofs.Common.{◌≡◌, map, take}
use Rattle.hordguli_c.specs.Segments.{script_run_out}
use Rattle.hordguli_c.proofs.segment_calls.put_each_script_run.Given as goal

abbrev pub invariant-loop-k : goal.invariant-loop-k
invariant-loop-k l = take l.k l.array ≡ map script_run_out (take l.k l.runs)
