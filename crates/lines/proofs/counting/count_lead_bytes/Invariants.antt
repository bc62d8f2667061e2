use Rattle.std.proofs.Common.{◌≡◌, ◌+◌, length, count_by}
use Rattle.lines.specs.Counting.{is_lead_byte}
use Rattle.lines.proofs.counting.count_lead_bytes.Given as goal

-- the count so far, plus the lead bytes in the rest, is the number of lead bytes
abbrev pub invariant-loop-rest : goal.invariant-loop-rest
invariant-loop-rest l = l.count + count_by is_lead_byte l.rest ≡ count_by is_lead_byte l.bytes

abbrev pub decreases-loop-rest : goal.decreases-loop-rest
decreases-loop-rest l = length l.rest
