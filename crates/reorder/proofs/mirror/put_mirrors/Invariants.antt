use Rattle.std.proofs.Common.{◌≡◌, ℕ, ◌-◌, ◌<◌, ◌≤◌, length, get_or}
use Rattle.reorder.specs.Mirroring.{mirrored}
use Rattle.reorder.proofs.mirror.put_mirrors.Given as goal

abbrev pub invariant-loop-at : goal.invariant-loop-at
invariant-loop-at l = record {
  within : l.at ≤ length l.line;
  done : (j : ℕ) → j < length l.line → get_or l._vtol j 0 < l.at
      → get_or l.chars j 0 ≡ mirrored l.tables (get_or l.levels (get_or l._vtol j 0) 0) (get_or l.line (get_or l._vtol j 0) 0);
  left : (j : ℕ) → j < length l.line → l.at ≤ get_or l._vtol j 0 → get_or l.chars j 0 ≡ get_or l.line (get_or l._vtol j 0) 0;
}

abbrev pub decreases-loop-at : goal.decreases-loop-at
decreases-loop-at l = length l.line - l.at
