-- How the spans of a range are found, one after the other. No contract of an exported function uses these
-- definitions.
use Rattle.std.specs.Prelude.{◌≡◌, ℕ, ◌*◌, ◌<◌, ◌≤◌, Bool, false, not, [], length, slice_index}
use Rattle.lines.specs.Columns.{columns_left, width_at}
use Rattle.lines.specs.Measures.{given_if, AreMeasured}
use Rattle.lines.specs.Spans.{is_covered, is_left_edge, is_selected}
use Rattle.lines.specs.Visual.{Visual}
use Rattle.lines.specs.declared.engine.TheConstants.{PARAGRAPH_LIMIT}
use Rattle.lines.specs.declared.spans.Reached.{Reached}
use Rattle.lines.specs.declared.spans.Selection.{Selection}

-- the parts of a selection's line that spans depend on
abbrev pub selected_in : Selection → Visual
selected_in s = record {
  is_first = false;
  base = 0;
  tab_width = s.tab_width;
  len = 0;
  text = s.text.now;
  advances = given_if s.is_measured s.advances.now;
  columns = 0;
  levels = [];
  ltov = [];
  vtol = s.vtol.now;
  chars = [];
}

-- whether the widths of a selection are those of its characters, if the line is measured
abbrev pub IsMeasured : Selection → Type 0
IsMeasured s = AreMeasured s.tab_width s.text.now s.is_measured s.advances.now s.widths.now

-- the columns of the character at a visual position
abbrev pub columns_on : Visual → ℕ → ℕ
columns_on line place = width_at line (slice_index line.vtol place)

-- whether `at` is a visual position in the line or at its end, with the number of columns to the left of this
-- position; the line has at most `PARAGRAPH_LIMIT` characters
pub record IsReached (line : Visual) (at : Reached) : Type 0 where
  pub within : at.place ≤ length line.vtol
  pub column : at.column ≡ columns_left line at.place
  pub few : at.column ≤ 4294967295 * at.place
  pub limit : length line.vtol ≤ PARAGRAPH_LIMIT

-- From visual position `old` up to `new`, the characters that occupy columns are all selected if `inside` is
-- true, and all unselected if `inside` is false. The character at `new`, if there is one, occupies columns,
-- and is selected only if `inside` is false.
pub record Passes (s : Selection) (inside : Bool) (old new : ℕ) : Type 0 where
  pub forward : old ≤ new
  pub passed : (place : ℕ) → old ≤ place → place < new → 0 < columns_on (selected_in s) place → is_selected (selected_in s) s.start s.end place ≡ inside
  pub takes : new < length s.vtol.now → 0 < columns_on (selected_in s) new
  pub stops : new < length s.vtol.now → is_selected (selected_in s) s.start s.end new ≡ not inside

-- whether a column, if it is covered, is the left edge of a span
abbrev pub IsFresh : Selection → ℕ → Type 0
IsFresh s column = is_left_edge (is_covered (selected_in s) s.start s.end) column ≡ is_covered (selected_in s) s.start s.end column
