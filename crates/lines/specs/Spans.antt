-- The columns that a range of a line's characters covers, as maximal intervals.
use Rattle.std.specs.Prelude.{◌≡◌, ℕ, zero, suc, ◌-◌, ◌<◌, ◌≤◌, nat_le, nat_lt, Bool, false, ◌&&◌, not, List, [], ◌∷◌, length, map, filter, slice_index, unwrap_or, All, ⊤}
use Rattle.std.specs.List.{list_any, range_with_len}
use Rattle.std.specs.Option.{option_map_or}
use Rattle.ucd.specs.Least.{least}
use Rattle.lines.specs.Columns.{columns_left, covering}
use Rattle.lines.specs.Visual.{Visual}
use Rattle.lines.specs.declared.spans.Span.{Span}

-- whether a span contains a column
abbrev pub has_column : ℕ → Span → Bool
has_column column span = nat_le span.left column && nat_lt column span.right

-- whether each span ends before the column where the next one begins, so that no two of them touch
abbrev pub AreApart : List Span → Type 0
AreApart [] = ⊤
AreApart (span ∷ []) = ⊤
AreApart (span ∷ next ∷ spans) = (span.right < next.left) × AreApart (next ∷ spans)

-- whether a column is covered, and the one to its left is not
abbrev pub is_left_edge : (ℕ → Bool) → ℕ → Bool
is_left_edge is_covered zero = is_covered zero
is_left_edge is_covered (suc column) = is_covered (suc column) && not (is_covered column)

-- a test that says which columns are covered, and the width of the line
module _ (is_covered : ℕ → Bool) (width : ℕ) where
  -- the interval from a column up to the first one that is not covered
  abbrev pub span_at : ℕ → Span
  span_at column = record {
    left = column;
    right = unwrap_or (least (λ c. not (is_covered c)) column (width - column)) width;
  }

  -- the maximal intervals of covered columns that begin at `column` or to its right
  abbrev pub intervals_from : ℕ → List Span
  intervals_from column = map span_at (filter (is_left_edge is_covered) (range_with_len column (width - column)))

  -- Whether spans are the maximal intervals of covered columns, from left to right: none is empty, they contain
  -- the covered columns and no others, and no two of them touch.
  pub record AreMaximal (spans : List Span) : Type 0 where
    pub some : All (λ span. span.left < span.right) spans
    pub covered : (column : ℕ) → column < width → list_any (has_column column) spans ≡ is_covered column
    pub within : All (λ span. span.right ≤ width) spans
    pub apart : AreApart spans

-- a line, and the range of its positions from `start` up to `end`
module _ (line : Visual) (start end : ℕ) where
  -- whether the character at a visual position is in the range
  abbrev pub is_selected : ℕ → Bool
  is_selected place = nat_le start (slice_index line.vtol place) && nat_lt (slice_index line.vtol place) end

  -- whether the character that covers a column is in the range
  abbrev pub is_covered : ℕ → Bool
  is_covered column = option_map_or is_selected (covering line column) false

  -- the maximal intervals of columns covered by the range, except those that begin to the left of `column`
  unfoldable pub spans_from : ℕ → List Span
  spans_from column = intervals_from is_covered (columns_left line (length line.vtol)) column

  -- the columns that the range covers, as maximal intervals
  abbrev pub spans_of : List Span
  spans_of = spans_from 0
