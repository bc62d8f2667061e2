use Rattle.std.proofs.Common.{◌≡◌, ℕ, nat_le, nat_lt, ◌&&◌, Some, if◌then◌else◌}
use Rattle.std.specs.BTreeMap.{get}
use Rattle.std.specs.Ordering.{nat_cmp}
use Rattle.ucd.proofs.points.insert_points.Given as goal

abbrev pub invariant-loop-point : goal.invariant-loop-point
invariant-loop-point g l = (c : ℕ) → get nat_cmp l.points c ≡ (if nat_le l.entry.first c && nat_lt c l.point then Some l.entry.value else get nat_cmp l.fn.points c)
