use Rattle.std.proofs.Common.{◌≡◌, ◌-◌, ◌<◌, length}
use Rattle.lines.proofs.EndLemmas.{ends_up_to}
use Rattle.hordguli_c.proofs.segment_calls.collect_ends.Given as goal

-- `found` lists the positions before k at which a segment ends
abbrev pub invariant-loop-k : goal.invariant-loop-k
invariant-loop-k l = (0 < l.k) × (l.found.items ≡ ends_up_to l.ends 0 (length l.ends) (l.k - 1))
