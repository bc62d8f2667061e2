-- The level runs of a line, each represented by its start.
use Rattle.std.specs.Prelude.{ℕ, zero, suc, ◌+◌, ◌-◌, ◌==◌, List, length, reverse, slice_index, Option, Some, None, if◌then◌else◌}
use Rattle.std.specs.List.{range_with_len}
use Rattle.reorder.specs.Order.{highest, is_odd, lowest_odd, reversed_from}

module _ (levels : List ℕ) where
  -- the number of consecutive characters at the given level from s on, at most `count`
  abbrev pub same_len : ℕ → ℕ → ℕ → ℕ
  same_len level s zero = zero
  same_len level s (suc count) = if slice_index levels s == level then suc (same_len level (s + 1) count) else zero

  -- the length of the run that starts at s
  abbrev pub level_run_len : ℕ → ℕ
  level_run_len s = suc (same_len (slice_index levels s) (s + 1) (length levels - (s + 1)))

  -- the logical positions of the run that starts at s, in logical order
  abbrev pub run_at : ℕ → List ℕ
  run_at s = range_with_len s (level_run_len s)

  -- the logical positions of the run that starts at s, in visual order
  abbrev pub run_shown : ℕ → List ℕ
  run_shown s = if is_odd (slice_index levels s) then reverse (run_at s) else run_at s

  -- the items after L2 has reversed the intervals for each level from the highest down to the given lowest
  -- odd level, if any
  abbrev pub turned_by : List ℕ → Option ℕ → List ℕ
  turned_by items None = items
  turned_by items (Some low) = reversed_from levels low (suc (highest levels) - low) items

  unfoldable pub turned : List ℕ → List ℕ
  turned items = turned_by items (lowest_odd levels)
