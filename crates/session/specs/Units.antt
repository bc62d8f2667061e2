-- Caret units: what a caret moves over on a line in one step. A unit begins at each character that takes
-- columns, unless an earlier such character of its grapheme cluster is in the same level run. It ends where
-- the cluster's next unit begins, or else at the end of the shown part of the cluster.
use Rattle.std.specs.Prelude.{ℕ, suc, ◌+◌, ◌-◌, nat_lt, nat_le, ◌==◌, Bool, ◌&&◌, not, min, max, length, slice_index, Option, Some, None, unwrap_or, if◌then◌else◌}
use Rattle.bidi.specs.Brackets.{greatest}
use Rattle.lines.specs.Clusters.{after}
use Rattle.lines.specs.Columns.{columns_between, columns_left}
use Rattle.lines.specs.Visual.{Visual}
use Rattle.reorder.specs.Order.{is_odd}
use Rattle.ucd.specs.Least.{least}
use Rattle.session.specs.Carets.{leading_edge, trailing_edge}
use Rattle.session.specs.declared.clusters.Cluster.{Cluster}
use Rattle.session.specs.declared.units.CaretUnit.{CaretUnit}

module _ (line : Visual) where
  -- whether a character is shown and takes columns
  abbrev pub takes_columns : ℕ → Bool
  takes_columns k = nat_lt 0 (columns_between line k (suc k))

  -- whether the levels of characters j and k differ
  abbrev pub is_at_other : ℕ → ℕ → Bool
  is_at_other k j = not (slice_index line.levels j == slice_index line.levels k)

  -- the first character of the level run of character k
  abbrev pub run_begin : ℕ → ℕ
  run_begin k = after (greatest (is_at_other k) k) 0

  -- the index after the last character of the level run of character k
  abbrev pub run_end : ℕ → ℕ
  run_end k = unwrap_or (least (is_at_other k) k (length line.levels - k)) (length line.levels)

  -- whether the character at a visual position has an index from `first` up to `end`, and takes columns
  abbrev pub is_in_unit : ℕ → ℕ → ℕ → Bool
  is_in_unit first end place =
      let k = slice_index line.vtol place in
      (nat_le first k && nat_lt k end) && takes_columns k

  -- The column of the leading end of a unit. At an even level, this is the left edge of its first character.
  -- At an odd level, it is the right edge of its rightmost character, which may be a later character of its cluster
  -- (L3).
  abbrev pub leading_of : ℕ → ℕ → ℕ → ℕ
  leading_of level first end =
      if is_odd level then columns_left line (after (greatest (is_in_unit first end) (length line.vtol)) 0) else leading_edge line first

-- a line that starts at the position `start`, and a cluster of the text that has a character on the line
module _ (line : Visual) (start : ℕ) (cluster : Cluster) where
  -- the start of the shown part of the cluster
  abbrev pub shown_begin : ℕ
  shown_begin = cluster.start - start

  -- the end of the shown part of the cluster
  abbrev pub shown_end : ℕ
  shown_end = min (cluster.end - start) (length line.levels)

  -- The start of the unit of character k, if k takes columns: the first character that takes columns in the
  -- same cluster and level run.
  abbrev pub unit_start : ℕ → ℕ
  unit_start k =
      let low = max shown_begin (run_begin line k) in
      unwrap_or (least (takes_columns line) low (k - low)) k

  -- the end of character k's unit: the first character of the cluster that takes columns in a later level
  -- run, or else the end of the cluster's shown part
  abbrev pub unit_end : ℕ → ℕ
  unit_end k = unwrap_or (least (takes_columns line) (run_end line k) (shown_end - run_end line k)) shown_end

  -- the unit of character k; the columns of its two ends differ by the total width of its characters
  abbrev pub unit_of : ℕ → CaretUnit
  unit_of k =
      let first = unit_start k in
      let level = slice_index line.levels k in
      let leading = leading_of line level first (unit_end k) in
      let width = columns_between line first (unit_end k) in
      record {
        start = first;
        end = unit_end k;
        leading = leading;
        trailing = if is_odd level then leading - width else leading + width;
        level = level;
      }

  -- the column of the edge before character k: the leading end of k's unit if the unit begins with k, or else
  -- the leading edge of k
  abbrev pub column_before : ℕ → ℕ
  column_before k = if takes_columns line k && unit_start k == k then (unit_of k).leading else leading_edge line k

  -- the last character of the cluster at or before k that takes columns, or `None`; its unit also contains k
  abbrev pub holder : ℕ → Option ℕ
  holder k = greatest (λ j. nat_le shown_begin j && takes_columns line j) (suc k)

  -- the column of the edge after character k: the trailing end of k's unit if the unit ends with k, or else
  -- the trailing edge of k
  abbrev pub column_by : ℕ → Option ℕ → ℕ
  column_by k None = trailing_edge line k
  column_by k (Some j) = if unit_end j == suc k then (unit_of j).trailing else trailing_edge line k

  abbrev pub column_after : ℕ → ℕ
  column_after k = column_by k (holder k)
