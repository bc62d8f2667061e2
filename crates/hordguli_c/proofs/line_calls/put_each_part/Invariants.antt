use Rattle.std.proofs.Common.{◌≡◌, ◌-◌, ◌≤◌, drop, length, take}
use Rattle.session.specs.Sessions.{text_at}
use Rattle.hordguli_c.proofs.line_calls.put_each_part.Given as goal

-- the first `done` characters of the range are in the array
abbrev pub invariant-loop-done : goal.invariant-loop-done
invariant-loop-done l = record {
  within : l.done ≤ length l.array;
  front : take l.done l.array ≡ take l.done (drop l.pos (text_at l.session));
}

abbrev pub decreases-loop-done : goal.decreases-loop-done
decreases-loop-done l = length l.array - l.done
