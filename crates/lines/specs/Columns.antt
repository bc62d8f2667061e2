-- The columns of a line's characters, and the padding before a line. Columns are those of the text's
-- characters, not of their mirrored forms.
use Rattle.std.specs.Prelude.{ℕ, ◌+◌, ◌-◌, nat_lt, List, length, take, sum, sum_by, slice_index, slice_range, Option, if◌then◌else◌}
use Rattle.ucd.specs.Least.{least}
use Rattle.reorder.specs.Order.{is_odd}
use Rattle.reorder.specs.declared.runs.Run.{Run}
use Rattle.lines.specs.Visual.{Visual}
use Rattle.lines.specs.Widths.{widths_of}

-- the columns of each shown character, in logical order
abbrev pub widths : Visual → List ℕ
widths line = widths_of line.tab_width line.advances line.text

-- the columns of the shown character at a position
abbrev pub width_at : Visual → ℕ → ℕ
width_at line k = slice_index (widths line) k

-- the columns of the character at a visual position, or 0 past the last position
abbrev pub columns_at : Visual → ℕ → ℕ
columns_at line place = if nat_lt place (length line.vtol) then width_at line (slice_index line.vtol place) else 0

-- the total columns of the shown characters from logical position `start` up to `end`
abbrev pub columns_between : Visual → ℕ → ℕ → ℕ
columns_between line start end = sum (slice_range (widths line) start end)

-- the columns to the left of a visual position
abbrev pub columns_left : Visual → ℕ → ℕ
columns_left line place = sum_by (width_at line) (take place line.vtol)

-- the visual position of the character that covers a column: the first position whose character has its right
-- edge past that column, or `None` if there is none
abbrev pub covering : Visual → ℕ → Option ℕ
covering line column = least (λ place. nat_lt column (columns_left line (place + 1))) 0 (length line.vtol)

-- the total columns of a run's characters
abbrev pub run_columns : Visual → Run → ℕ
run_columns line run = columns_between line run.start (run.start + run.len)

-- the columns of padding to the left of a line; only lines of right-to-left paragraphs have padding
abbrev pub padding_of : ℕ → Visual → ℕ
padding_of width line = if is_odd line.base then width - line.columns else 0
