use Rattle.std.proofs.Common.{◌≡◌, length, take}
use Rattle.hordguli_c.proofs.text_calls.put_each_decoded.Given as goal

-- the characters yielded so far are in the array
abbrev pub invariant-loop-c : goal.invariant-loop-c
invariant-loop-c l = (l.k ≡ length l.yielded) × (take l.k l.array ≡ l.yielded)
