-- The level runs of a line (UAX #9, BD7), in visual order.
use Rattle.std.specs.Prelude.{◌≡◌, ◌≢◌, ℕ, zero, suc, ◌+◌, ◌-◌, ◌<◌, ◌≤◌, nat_le, nat_lt, ◌==◌, Bool, true, ◌&&◌, not, List, [], ◌∷◌, length, map, filter, reverse, slice_index, All, Option, Some, None, if◌then◌else◌}
use Rattle.std.specs.List.{count_by, flat_map, range_with_len, sum_by}
use Rattle.reorder.specs.LevelRuns.{level_run_len}
use Rattle.reorder.specs.Order.{is_odd, order_of}
use Rattle.reorder.specs.declared.runs.Run.{Run}

-- the positions of a run's characters in visual order
abbrev pub places_in : Run → List ℕ
places_in run = if is_odd run.level then reverse (range_with_len run.start run.len) else range_with_len run.start run.len

-- whether a position is in a run
abbrev pub has_place : ℕ → Run → Bool
has_place place run = nat_le run.start place && nat_lt place (run.start + run.len)

-- the items of a list from the first x on
abbrev pub items_from : ℕ → List ℕ → List ℕ
items_from x [] = []
items_from x (y ∷ ys) = if y == x then y ∷ ys else items_from x ys

module _ (levels : List ℕ) where
  -- whether a run begins at a position: no character is before it, or the character before it is at another
  -- level
  abbrev pub begins_run : ℕ → Bool
  begins_run zero = true
  begins_run (suc i) = not (slice_index levels (suc i) == slice_index levels i)

  -- the run that begins at a position
  abbrev pub run_from : ℕ → Run
  run_from start = record { start = start; len = level_run_len levels start; level = slice_index levels start }

  -- where runs begin, in visual order according to L2
  abbrev pub run_starts : List ℕ
  run_starts = filter begins_run (order_of levels)

  -- the number of runs
  abbrev pub run_count : ℕ
  run_count = length run_starts

  -- the runs, in the visual order of their first characters
  unfoldable pub runs_of : List Run
  runs_of = map run_from run_starts

  -- Whether a run is maximal: the run is not empty, its characters are all at its level, and the characters next to it
  -- are at other levels.
  pub record IsMaximal (run : Run) : Type 0 where
    pub some : 0 < run.len
    pub within : run.start + run.len ≤ length levels
    pub level : (k : ℕ) → k < run.len → slice_index levels (run.start + k) ≡ run.level
    pub before : 0 < run.start → slice_index levels (run.start - 1) ≢ run.level
    pub after : run.start + run.len < length levels → slice_index levels (run.start + run.len) ≢ run.level

  -- Whether `runs` are the level runs of the line, from left to right. Each run is maximal, and each
  -- character is in exactly one run. The characters of the runs, one run after another, are in visual order.
  -- So the sum of a function over the characters of all runs equals its sum over the line.
  pub record AreRuns (runs : List Run) : Type 0 where
    pub maximal : All IsMaximal runs
    pub once : (place : ℕ) → place < length levels → count_by (has_place place) runs ≡ 1
    pub in_order : flat_map places_in runs ≡ order_of levels
    pub sums : (f : ℕ → ℕ) → sum_by (λ run. sum_by f (range_with_len run.start run.len)) runs ≡ sum_by f (range_with_len 0 (length levels))

  -- whether the run that contains a character begins at `start`
  pub record IsStartOf (place start : ℕ) : Type 0 where
    pub to : start ≤ place
    pub level : (k : ℕ) → start ≤ k → k ≤ place → slice_index levels k ≡ slice_index levels place
    pub begins : begins_run start ≡ true

  -- the runs from the one that begins at the given position on, or none if no position is given
  unfoldable pub runs_left : Option ℕ → List Run
  runs_left None = []
  runs_left (Some start) = map run_from (items_from start run_starts)
