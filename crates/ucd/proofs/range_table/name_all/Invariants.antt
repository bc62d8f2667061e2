use Rattle.std.proofs.Common.{◌≡◌, ℕ, nat_le, nat_lt, ◌&&◌, true, false, get_or, if◌then◌else◌}
use Rattle.ucd.proofs.range_table.name_all.Given as goal

abbrev pub invariant-loop-c : goal.invariant-loop-c
invariant-loop-c l = (c : ℕ) → get_or l.named c false ≡ (if nat_le l.first c && nat_lt c l.c then true else get_or l.fn.named c false)
