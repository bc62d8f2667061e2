use Rattle.std.proofs.Common.{◌≡◌, ℕ, ◌-◌, ◌<◌, ◌≤◌, false, length, slice_index_or}
use Rattle.ucd.specs.declared.properties.Properties.{Properties}
use Rattle.reorder.proofs.mirror.next_mirror.Given as goal

abbrev pub invariant-loop-at : goal.invariant-loop-at
invariant-loop-at l = record {
  reached : l.from ≤ l.at;
  within : l.at ≤ length l.properties;
  passed : (m : ℕ) (e : Properties) → l.from ≤ m → m < l.at → (slice_index_or l.properties m e).has_mirror ≡ false;
}

abbrev pub decreases-loop-at : goal.decreases-loop-at
decreases-loop-at l = length l.properties - l.at

abbrev pub invariant-loop-at-2 : goal.invariant-loop-at-2
invariant-loop-at-2 l = record {
  reached : l.from ≤ l.at;
  within : l.at ≤ length l.properties;
  passed : (m : ℕ) (e : Properties) → l.from ≤ m → m < l.at → (slice_index_or l.properties m e).has_mirror ≡ false;
}

abbrev pub decreases-loop-at-2 : goal.decreases-loop-at-2
decreases-loop-at-2 l = length l.properties - l.at
