use Rattle.std.proofs.Common.{◌≡◌, ℕ, nat_le, nat_lt, ◌&&◌, None, Some, get_or, if◌then◌else◌}
use Rattle.ucd.proofs.claims.set_types.Given as goal

abbrev pub invariant-loop-c : goal.invariant-loop-c
invariant-loop-c l = (c : ℕ) → get_or l.types c None ≡ (if nat_le l.first c && nat_lt c l.c then Some l.joining else get_or l.fn.types c None)
