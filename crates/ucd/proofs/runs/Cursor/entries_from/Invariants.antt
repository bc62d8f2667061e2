use Rattle.std.proofs.Common.{◌≡◌, ℕ, ◌≤◌, length}
use Rattle.ucd.specs.Entries.{value_at}
use Rattle.ucd.specs.Rising.{AreRisingFrom}
use Rattle.ucd.proofs.runs.Cursor.entries_from.Given as goal

-- the remaining entries are in ascending order, and assign the same values as all entries to the code points
-- from `point` on
abbrev pub invariant-loop-first : goal.invariant-loop-first
invariant-loop-first g l = record {
  rising : AreRisingFrom 0 l.left;
  values : (c : ℕ) → l.point ≤ c → value_at l.left c ≡ value_at l.entries c;
}

abbrev pub decreases-loop-first : goal.decreases-loop-first
decreases-loop-first g l = length l.left
