-- Where the tabs of a line end.
use Rattle.std.specs.Prelude.{◌≡◌, ℕ, ◌+◌, ◌-◌, ◌%◌, ◌<◌, true, false, length, slice_index}
use Rattle.reorder.specs.Order.{is_odd}
use Rattle.lines.specs.Columns.{columns_left}
use Rattle.lines.specs.Tabs.{is_tab}
use Rattle.lines.specs.Visual.{Visual}
use Rattle.lines.specs.Widths.{sizes_of}

-- the size of the shown character at a position; the size of a tab is the distance between tab stops
abbrev pub size_at : Visual → ℕ → ℕ
size_at line k = slice_index (sizes_of line.tab_width line.advances line.text) k

-- whether the shown character at a position is a tab that moves to a tab stop; a tab of size 0 moves to none
pub record IsTab (line : Visual) (k : ℕ) : Type 0 where
  pub within : k < length line.levels
  pub tab : is_tab line.tab_width (slice_index line.text k) ≡ true
  pub some : 0 < size_at line k

-- Whether each tab ends at a tab stop, counted from the edge at which the line starts: the left edge, or the right edge
-- in a right-to-left paragraph.
pub record TabsEndAtStops (line : Visual) : Type 0 where
  pub left_to_right : is_odd line.base ≡ false → (k : ℕ) → IsTab line k → columns_left line (slice_index line.ltov k + 1) % size_at line k ≡ 0
  pub right_to_left : is_odd line.base ≡ true → (k : ℕ) → IsTab line k → (line.columns - columns_left line (slice_index line.ltov k)) % size_at line k ≡ 0
