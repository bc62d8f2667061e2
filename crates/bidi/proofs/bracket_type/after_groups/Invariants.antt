use Rattle.std.proofs.Common.{◌≡◌, ℕ, ◌-◌, ◌<◌, ◌≤◌, false, length, slice_index_or}
use Rattle.bidi.proofs.bracket_type.after_groups.Given as goal

abbrev pub invariant-loop-at : goal.invariant-loop-at
invariant-loop-at g l = record {
  reached : l.from ≤ l.at;
  within : l.at ≤ length l.items;
  passed : (m : ℕ) (e : g.row.T.Denot) → l.from ≤ m → m < l.at → g.T.MaybeBracket.is_one (slice_index_or l.items m e) ≡ false;
}

abbrev pub decreases-loop-at : goal.decreases-loop-at
decreases-loop-at g l = length l.items - l.at
