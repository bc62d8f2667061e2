use Rattle.std.proofs.Common.{◌≡◌, map, take}
use Rattle.hordguli_c.specs.Reasons.{break_reason_out}
use Rattle.hordguli_c.proofs.reason_calls.put_each_break_reason.Given as goal

abbrev pub invariant-loop-k : goal.invariant-loop-k
invariant-loop-k l = take l.k l.records ≡ map break_reason_out (take l.k l.reasons)
