-- The character at a column of a line.
use Rattle.std.specs.Prelude.{ℕ, ◌+◌, ◌-◌, false, not, List, length, slice_get, slice_index, Option, Some, None}
use Rattle.lines.specs.Columns.{columns_left, covering}
use Rattle.lines.specs.Layouts.{Layout}
use Rattle.reorder.specs.Order.{is_odd}
use Rattle.lines.specs.Visual.{Visual}
use Rattle.session.specs.Kept.{lines_in}
use Rattle.session.specs.Places.{line_starts}
use Rattle.session.specs.declared.hits.Hit.{Hit}

-- the visual position of a line's rightmost character of nonzero width, which covers the last column; `None`
-- if there is no such character
abbrev pub rightmost : Visual → Option ℕ
rightmost line = covering line (columns_left line (length line.vtol) - 1)

-- The hit at a column of a line that starts at `start`. To the right of the line, the hit is the line's
-- rightmost character of nonzero width, and is trailing if the level of that character is even. In a line of
-- width 0, the hit is the start of the line.
abbrev pub hit_by : ℕ → Visual → Option ℕ → Option ℕ → Hit
hit_by start line (Some place) last = record { pos = start + slice_index line.vtol place; trailing = false }
hit_by start line None (Some place) = record {
  pos = start + slice_index line.vtol place;
  trailing = not (is_odd (slice_index line.levels (slice_index line.vtol place)));
}
hit_by start line None None = record { pos = start; trailing = false }

abbrev pub hit_in : ℕ → Visual → ℕ → Hit
hit_in start line column = hit_by start line (covering line column) (rightmost line)

-- the hit at a column of a line; `None` if the line does not exist
abbrev pub hit_of : Option ℕ → Option Visual → ℕ → Option Hit
hit_of (Some start) (Some line) column = Some (hit_in start line column)
hit_of start line column = None

abbrev pub hit_at : List Layout → ℕ → ℕ → Option Hit
hit_at kept n column = hit_of (slice_get (line_starts kept) n) (slice_get (lines_in kept) n) column
