-- The two edges of a position, and steps from edge to edge on a line.
use Rattle.std.specs.Prelude.{ℕ, zero, suc, ◌+◌, ◌-◌, ◌<◌, ◌≤◌, nat_le, nat_lt, ◌==◌, Bool, true, not, ◌&&◌, max, List, length, slice_get, slice_index, Option, Some, None, option_and_then, option_map, unwrap_or, if◌then◌else◌}
use Rattle.lines.specs.Columns.{columns_left, covering}
use Rattle.lines.specs.Layouts.{Layout, Rules}
use Rattle.lines.specs.Separators.{separator_len}
use Rattle.lines.specs.Visual.{Visual}
use Rattle.reorder.specs.Order.{is_odd}
use Rattle.session.specs.Carets.{caret_at, end_caret}
use Rattle.session.specs.Clusters.{cluster_at}
use Rattle.session.specs.Kept.{lines_in, text_of}
use Rattle.session.specs.Places.{is_closed, line_starts, place_in}
use Rattle.session.specs.Units.{column_after, column_before, unit_of}
use Rattle.session.specs.declared.carets.Caret.{Caret}
use Rattle.session.specs.declared.clusters.Cluster.{Cluster}
use Rattle.session.specs.declared.edges.Direction.{Direction}
use Rattle.session.specs.declared.edges.Direction.TheVariants.{Left, Right}
use Rattle.session.specs.declared.edges.Edge.{Edge}
use Rattle.session.specs.declared.edges.LineEdges.{LineEdges}
use Rattle.session.specs.declared.edges.Side.{Side}
use Rattle.session.specs.declared.edges.Side.TheVariants.{Before, After}
use Rattle.session.specs.declared.places.Place.{Place}
use Rattle.session.specs.declared.units.CaretUnit.{CaretUnit}

abbrev pub before : ℕ → Edge
before pos = record { pos = pos; side = Before }

abbrev pub after : ℕ → Edge
after pos = record { pos = pos; side = After }

abbrev pub is_edge_at : ℕ → Side → Bool
is_edge_at pos Before = true
is_edge_at pos After = not (pos == 0)

-- whether an edge exists in a text of `chars` characters: its position is not past the end and, for an
-- `After` edge, not 0
abbrev pub is_edge_in : ℕ → Edge → Bool
is_edge_in chars edge = nat_le edge.pos chars && is_edge_at edge.pos edge.side

-- whether a text of `chars` characters has a character on a side of `pos`: at `pos`, or before it
abbrev pub IsBeside : ℕ → ℕ → Side → Type 0
IsBeside chars pos Before = pos < chars
IsBeside chars pos After = (0 < pos) × (pos ≤ chars)

abbrev pub HasCharacter : ℕ → Edge → Type 0
HasCharacter chars edge = IsBeside chars edge.pos edge.side

-- the edge at the left end of a unit, on a line that starts at `start`
abbrev pub left_edge : ℕ → CaretUnit → Edge
left_edge start unit = if is_odd unit.level then after (start + unit.end) else before (start + unit.start)

-- the edge at the right end of a unit, on a line that starts at `start`
abbrev pub right_edge : ℕ → CaretUnit → Edge
right_edge start unit = if is_odd unit.level then before (start + unit.start) else after (start + unit.end)

-- the column of the left end of a unit
abbrev pub left_column : CaretUnit → ℕ
left_column unit = if is_odd unit.level then unit.trailing else unit.leading

-- the column of the right end of a unit
abbrev pub right_column : CaretUnit → ℕ
right_column unit = if is_odd unit.level then unit.leading else unit.trailing

-- the edge at whichever end of a unit is nearer to a column of the unit; at the unit's middle, the right end
abbrev pub nearer_edge : ℕ → ℕ → CaretUnit → Edge
nearer_edge start column unit =
    if nat_lt (column - left_column unit) (right_column unit - column) then left_edge start unit else right_edge start unit

-- the column of the edge before or after character k, depending on the side
abbrev pub column_on : Side → Visual → ℕ → Cluster → ℕ → ℕ
column_on Before line start cluster k = column_before line start cluster k
column_on After line start cluster k = column_after line start cluster k

-- the caret before or after character k of a line that starts at `start`, depending on the side, or the caret
-- at the line's end if the character is not shown
abbrev pub caret_beside : Side → ℕ → Visual → ℕ → ℕ → Cluster → Caret
caret_beside side n line start k cluster =
    if nat_lt k (length line.levels)
    then record { line = n; column = column_on side line start cluster k; level = slice_index line.levels k }
    else end_caret n line

module _ (kept : List Layout) where
  -- line n, and the position at which it starts; `None` past the last line
  abbrev pub line_at : ℕ → Option (Visual × ℕ)
  line_at n = option_and_then (λ line. option_map (λ start. (line, start)) (slice_get (line_starts kept) n)) (slice_get (lines_in kept) n)

  -- the unit of character k of a line that starts at `start`
  abbrev pub unit_in : Visual → ℕ → ℕ → Option CaretUnit
  unit_in line start k = option_map (λ cluster. unit_of line start cluster k) (cluster_at kept (start + k))

  -- the unit that covers a column of a line that starts at `start`; `None` if no unit does
  abbrev pub unit_at : Visual → ℕ → ℕ → Option CaretUnit
  unit_at line start column = option_and_then (λ place. unit_in line start (slice_index line.vtol place)) (covering line column)

  -- the caret before or after the character at `pos`, depending on the side; `place` is the place of that
  -- character
  abbrev pub caret_of : Side → ℕ → Place → Option Caret
  caret_of side pos place = option_and_then (λ line. option_map (caret_beside side place.line line (pos - place.offset) place.offset) (cluster_at kept pos)) (slice_get (lines_in kept) place.line)

  -- the edge after a step from a column of a line: the far end of the next unit in the direction; `None` if
  -- there is no such unit
  abbrev pub step_on : Visual → ℕ → ℕ → Direction → Option Edge
  step_on line start column Right = option_map (right_edge start) (unit_at line start column)
  step_on line start zero Left = None
  step_on line start (suc column) Left = option_map (left_edge start) (unit_at line start column)

  -- the edge at a column, given the unit that covers the column and the one that covers the line's last
  -- column, if they exist
  abbrev pub edge_by : ℕ → Option CaretUnit → Option CaretUnit → Edge
  edge_by start (Some unit) last = left_edge start unit
  edge_by start None (Some unit) = right_edge start unit
  edge_by start None None = before start

  abbrev pub edge_on : Visual → ℕ → ℕ → Edge
  edge_on line start column = edge_by start (unit_at line start column) (unit_at line start (columns_left line (length line.vtol) - 1))

  -- the edge nearest to a column, given the unit that covers the column and the one that covers the line's
  -- last column, if they exist
  abbrev pub nearest_by : ℕ → ℕ → Option CaretUnit → Option CaretUnit → Edge
  nearest_by start column (Some unit) last = nearer_edge start column unit
  nearest_by start column None last = edge_by start None last

  abbrev pub nearest_on : Visual → ℕ → ℕ → Edge
  nearest_on line start column = nearest_by start column (unit_at line start column) (unit_at line start (columns_left line (length line.vtol) - 1))

-- whether line n would be the first line of a new paragraph at the end of the text
abbrev pub is_next : Rules → List Layout → ℕ → Bool
is_next rules kept n = (n == length (lines_in kept)) && is_closed rules (text_of kept)

-- The caret at an edge, on the line of the character that the edge belongs to. The `Before` edge at the end
-- of the text has the caret that `caret_at` returns. `None` past the end, and for the `After` edge of
-- position 0.
abbrev pub edge_caret_by : Rules → List Layout → Side → ℕ → Option Caret
edge_caret_by rules kept Before pos =
    if nat_le (length (text_of kept)) pos then caret_at rules kept pos else caret_of kept Before pos (place_in kept pos)
edge_caret_by rules kept After zero = None
edge_caret_by rules kept After (suc pos) = if nat_le (length (text_of kept)) pos then None else caret_of kept After pos (place_in kept pos)

abbrev pub edge_caret_at : Rules → List Layout → Edge → Option Caret
edge_caret_at rules kept edge = edge_caret_by rules kept edge.side edge.pos

-- the edge after a step from an edge; `None` if no step is possible in that direction, or the edge has no
-- caret
abbrev pub step_at : Rules → List Layout → Edge → Direction → Option Edge
step_at rules kept edge direction =
    option_and_then (λ caret. option_and_then (λ found. step_on kept found.0 found.1 caret.column direction) (line_at kept caret.line))
    (edge_caret_at rules kept edge)

-- the edge at a column of line n; `None` past the line that contains the end of the text
abbrev pub edge_at : Rules → List Layout → ℕ → ℕ → Option Edge
edge_at rules kept n column =
    if is_next rules kept n then Some (before (length (text_of kept)))
    else option_map (λ found. edge_on kept found.0 found.1 column) (line_at kept n)

-- the edge nearest to a column of line n; `None` past the line that contains the end of the text
abbrev pub nearest_edge : Rules → List Layout → ℕ → ℕ → Option Edge
nearest_edge rules kept n column =
    if is_next rules kept n then Some (before (length (text_of kept)))
    else option_map (λ found. nearest_on kept found.0 found.1 column) (line_at kept n)

-- the position at which line n ends
abbrev pub end_of : List Layout → ℕ → ℕ
end_of kept n = unwrap_or (slice_get (line_starts kept) (suc n)) (length (text_of kept))

-- The last edge, in logical order, of a line from position `start` up to `end`, of which `visible` characters
-- are shown. The edge is before the separator that ends the line, if there is one. Otherwise, on the text's
-- last line, it is before the end of the text. On other lines, it is before the first space that is not
-- shown, or else after the last character.
abbrev pub last_edge : Rules → List ℕ → ℕ → ℕ → ℕ → Edge
last_edge rules text start end visible =
    let separators = separator_len rules.tables (slice_index text (max (end - 2) start)) (slice_index text (end - 1)) in
    (if nat_lt 0 separators then before (end - separators)
    else (if end == length text then before end
    else (if nat_lt visible (end - start) then before (start + visible) else after end)))

-- the first and last edge of line n, in logical order; `None` past the line that contains the end of the text
abbrev pub line_edges : Rules → List Layout → ℕ → Option LineEdges
line_edges rules kept n =
    let next = before (length (text_of kept)) in
    (if is_next rules kept n then Some (record { first = next; last = next })
    else option_map (λ found. record {
      first = before found.1;
      last = last_edge rules (text_of kept) found.1 (end_of kept n) (length (found.0).levels);
    }) (line_at kept n))
