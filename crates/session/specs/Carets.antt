-- Where a caret before a character, or at the end of the text, is drawn.
use Rattle.std.specs.Prelude.{ℕ, ◌+◌, nat_lt, List, [], length, slice_get, slice_index, Option, Some, None, option_map, if◌then◌else◌}
use Rattle.lines.specs.Columns.{columns_left}
use Rattle.lines.specs.Layouts.{Layout, Rules, base_of}
use Rattle.reorder.specs.Order.{is_odd}
use Rattle.lines.specs.Visual.{Visual}
use Rattle.session.specs.Kept.{lines_in}
use Rattle.session.specs.Places.{place_at}
use Rattle.session.specs.declared.carets.Caret.{Caret}
use Rattle.session.specs.declared.places.Place.{Place}

-- the caret at the end of a line's shown part, in the base direction
abbrev pub end_caret : ℕ → Visual → Caret
end_caret n line = record { line = n; column = if is_odd line.base then 0 else line.columns; level = line.base }

-- the column of a character's leading edge: the left edge if its level is even, the right one if it is odd
abbrev pub leading_edge : Visual → ℕ → ℕ
leading_edge line k =
    columns_left line (if is_odd (slice_index line.levels k) then slice_index line.ltov k + 1 else slice_index line.ltov k)

-- the column of a character's trailing edge: the right edge if its level is even, the left one if it is odd
abbrev pub trailing_edge : Visual → ℕ → ℕ
trailing_edge line k =
    columns_left line (if is_odd (slice_index line.levels k) then slice_index line.ltov k else slice_index line.ltov k + 1)

-- the caret before the character at a place in a line, or at the line's end if that character is not shown
abbrev pub caret_in : Visual → Place → Caret
caret_in line place =
    if nat_lt place.offset (length line.levels)
    then record { line = place.line; column = leading_edge line place.offset; level = slice_index line.levels place.offset }
    else end_caret place.line line

-- the caret at a place in a line; in column 0 if the line does not exist yet because a new paragraph would
-- start there
abbrev pub caret_on : Rules → Option Visual → Place → Caret
caret_on rules (Some line) place = caret_in line place
caret_on rules None place = record { line = place.line; column = 0; level = base_of rules [] }

-- the caret before the character at a position, or at the end of the text; `None` past the end
abbrev pub caret_at : Rules → List Layout → ℕ → Option Caret
caret_at rules kept pos = option_map (λ place. caret_on rules (slice_get (lines_in kept) place.line) place) (place_at rules kept pos)
