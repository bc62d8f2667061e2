use Rattle.std.proofs.Common.{◌≡◌, ℕ, take}
use Rattle.std.specs.BTreeMap.{get}
use Rattle.std.specs.Ordering.{nat_cmp}
use Rattle.ucd.specs.Entries.{value_at}
use Rattle.ucd.proofs.points.points_of.Given as goal

abbrev pub invariant-loop-entry : goal.invariant-loop-entry
invariant-loop-entry g l = (c : ℕ) → get nat_cmp l.points c ≡ value_at (take l.entry-index l.entries) c
