-- What is stored for lines, paragraphs and text of a session: numbers, bytes, characters, and lists in optional arrays.
-- Conversions between positions and offsets in UTF-8 bytes or UTF-16 code units are also here.
use Rattle.std.specs.Prelude.{◌≡◌, ℕ, ◌+◌, ◌<◌, ◌≤◌, ◌&&◌, Bool, List, length, map, option_map, slice_get, Option, Some, MatchBool}
use Rattle.std.specs.List.{slice_range}
use Rattle.lines.specs.Columns.{padding_of, width_at}
use Rattle.lines.specs.Layouts.{Layout}
use Rattle.lines.specs.Visual.{Visual}
use Rattle.lines.specs.declared.printing.print.Print.{Print}
use Rattle.session.specs.Kept.{lines_in}
use Rattle.session.specs.Offsets.{offset_of, position_of}
use Rattle.session.specs.Printing.{lines_page}
use Rattle.session.specs.Reading.{utf8_part}
use Rattle.session.specs.Sessions.{SessionState, text_at}
use Rattle.session.specs.declared.offsets.Encoding.{Encoding}
use Rattle.session.specs.declared.printing.RangeFault.{RangeFault}
use Rattle.session.specs.declared.printing.RangeFault.TheVariants.{OutOfRange, Write}
use Rattle.hordguli_c.specs.Arrays.{has_room, put_if, PutsItems}
use Rattle.hordguli_c.specs.Calls.{Given, Gives, OrNoMemory}
use Rattle.hordguli_c.specs.Flags.{flag}
use Rattle.hordguli_c.specs.Levels.{mark_number}
use Rattle.hordguli_c.specs.Options.{has_bit}
use Rattle.hordguli_c.specs.Runs.{runs_out}
use Rattle.hordguli_c.specs.declared.line_calls.LineOut.{LineOut}
use Rattle.hordguli_c.specs.declared.line_calls.ParagraphOut.{ParagraphOut}
use Rattle.hordguli_c.specs.declared.line_calls.PositionOut.{PositionOut}
use Rattle.hordguli_c.specs.declared.runs.RunOut.{RunOut}
use Rattle.hordguli_c.specs.declared.status.Status.{Status}
use Rattle.hordguli_c.specs.declared.status.Status.TheVariants as is

-- the information about a line that starts at `start`, in a session with this width
abbrev pub line_out : ℕ → ℕ → Visual → LineOut
line_out width start line = record {
  start = start;
  length = line.len;
  shown = length line.vtol;
  columns = line.columns;
  padding = padding_of width line;
  base = line.base;
  first = flag line.is_first;
}

-- the width of the character at each visual position, in columns
abbrev pub columns_in : Visual → List ℕ
columns_in line = map (width_at line) line.vtol

pub record LineArrays : Type 0 where
  pub characters : List ℕ
  pub levels : List ℕ
  pub ltov : List ℕ
  pub vtol : List ℕ
  pub columns : List ℕ

-- the arrays after the requested lists of a line were copied to them, and whether all of these lists fit
abbrev pub line_put : ℕ → Visual → LineArrays → LineArrays
line_put wanted line arrays = record {
  characters = put_if (has_bit wanted 1) line.chars arrays.characters;
  levels = put_if (has_bit wanted 2) line.levels arrays.levels;
  ltov = put_if (has_bit wanted 4) line.ltov arrays.ltov;
  vtol = put_if (has_bit wanted 8) line.vtol arrays.vtol;
  columns = put_if (has_bit wanted 16) (columns_in line) arrays.columns;
}

abbrev pub line_fits : ℕ → Visual → LineArrays → Bool
line_fits wanted line arrays =
    has_room (has_bit wanted 1) (length line.chars) (length arrays.characters)
    && has_room (has_bit wanted 2) (length line.levels) (length arrays.levels)
    && has_room (has_bit wanted 4) (length line.ltov) (length arrays.ltov)
    && has_room (has_bit wanted 8) (length line.vtol) (length arrays.vtol)
    && has_room (has_bit wanted 16) (length line.vtol) (length arrays.columns)

-- the requested arrays are written if all lists fit, and otherwise none is written
abbrev pub PutsLine : ℕ → Visual → Status → LineArrays → LineArrays → Type 0
PutsLine wanted line status old new =
    MatchBool (line_fits wanted line old) ((status ≡ is.Ok) × (new ≡ line_put wanted line old)) ((status ≡ is.NoRoom) × (new ≡ old))

-- the information about a line and the line's lists are stored, if the line exists
abbrev pub ShowsLine : ℕ → ℕ → Option ℕ → Option Visual → Status → LineOut × LineArrays → LineOut × LineArrays → Type 0
ShowsLine wanted width (Some start) (Some line) status old new = (new.0 ≡ line_out width start line) × PutsLine wanted line status old.1 new.1
ShowsLine wanted width start line status old new = (status ≡ is.OutOfRange) × (new ≡ old)

-- the runs of a line are stored, if the line exists
abbrev pub ShowsRuns : Option Visual → Status → List RunOut × ℕ → List RunOut × ℕ → Type 0
ShowsRuns (Some line) status old new = PutsItems (runs_out line.levels) status old new
ShowsRuns line status old new = (status ≡ is.OutOfRange) × (new ≡ old)

abbrev pub GivesRuns : ℕ → Status → SessionState → List RunOut × ℕ → List RunOut × ℕ → Type 0
GivesRuns n status state = ShowsRuns (slice_get (lines_in state.kept) n) status

-- The bytes of a range of items are stored. The bytes are collected before they are copied, so an allocation may fail
-- before their number is known.
abbrev pub PutsRange : ℕ → ℕ → ℕ → List ℕ → Status → List ℕ × ℕ → List ℕ × ℕ → Type 0
PutsRange size first count bytes status old new =
    Given (first + count ≤ size) is.OutOfRange status (new ≡ old)
    (OrNoMemory (0 < length bytes) status (new ≡ old) (PutsItems bytes status old new))

-- why the bytes of a range were not collected: the range reaches past the end, or an allocation failed
abbrev pub RangeNot : ℕ → ℕ → ℕ → List ℕ → RangeFault → Type 0
RangeNot size first count bytes OutOfRange = size < first + count
RangeNot size first count bytes (Write fault) = (first + count ≤ size) × (0 < length bytes)

-- the printed bytes of a range of lines are stored
abbrev pub PutsLines : ℕ → ℕ → Print → Status → SessionState → List ℕ × ℕ → List ℕ × ℕ → Type 0
PutsLines first count print status state = PutsRange (length (lines_in state.kept)) first count (lines_page state first count print) status

-- the characters of a range of the text are stored as UTF-8
abbrev pub PutsText : ℕ → ℕ → Status → SessionState → List ℕ × ℕ → List ℕ × ℕ → Type 0
PutsText pos count status state = PutsRange (length (text_at state)) pos count (utf8_part state.kept pos count) status

-- the characters of a range of the text are stored
abbrev pub PutsCharacters : ℕ → ℕ → Status → SessionState → List ℕ × ℕ → List ℕ × ℕ → Type 0
PutsCharacters pos count status state old new =
    Given (pos + count ≤ length (text_at state)) is.OutOfRange status (new ≡ old)
    (PutsItems (slice_range (text_at state) pos (pos + count)) status old new)

abbrev pub position_out : ℕ × ℕ → PositionOut
position_out place = record { pos = place.0; rest = place.1 }

-- the number of bytes or code units before a position is stored
abbrev pub GivesOffset : Encoding → ℕ → Status → SessionState → ℕ → ℕ → Type 0
GivesOffset encoding pos status state = Gives (offset_of encoding (text_at state) pos) status

-- two numbers are stored: the position of the character that contains an offset, and how many bytes or code
-- units of that character precede the offset
abbrev pub GivesPosition : Encoding → ℕ → Status → SessionState → PositionOut → PositionOut → Type 0
GivesPosition encoding offset status state = Gives (option_map position_out (position_of encoding (text_at state) offset)) status

-- the information about a paragraph whose first character is at `start` and whose first line is line `first_line`
abbrev pub paragraph_out : ℕ → ℕ → Layout → ParagraphOut
paragraph_out start first_line laid = record {
  length = length laid.text;
  lines = length laid.lines;
  base = laid.base;
  zero = 0;
  start = start;
  first_line = first_line;
}

pub record ParagraphArrays : Type 0 where
  pub levels : List ℕ
  pub marks : List ℕ

abbrev pub paragraph_put : ℕ → Layout → ParagraphArrays → ParagraphArrays
paragraph_put wanted laid arrays = record {
  levels = put_if (has_bit wanted 1) laid.levels arrays.levels;
  marks = put_if (has_bit wanted 2) (map mark_number laid.marks) arrays.marks;
}

abbrev pub paragraph_fits : ℕ → Layout → ParagraphArrays → Bool
paragraph_fits wanted laid arrays =
    has_room (has_bit wanted 1) (length laid.levels) (length arrays.levels)
    && has_room (has_bit wanted 2) (length laid.marks) (length arrays.marks)

abbrev pub PutsParagraph : ℕ → Layout → Status → ParagraphArrays → ParagraphArrays → Type 0
PutsParagraph wanted laid status old new =
    MatchBool (paragraph_fits wanted laid old) ((status ≡ is.Ok) × (new ≡ paragraph_put wanted laid old)) ((status ≡ is.NoRoom) × (new ≡ old))

-- the information about a paragraph and the paragraph's lists are stored, if the paragraph exists
abbrev pub ShowsParagraph : ℕ → Option ℕ → Option ℕ → Option Layout → Status → ParagraphOut × ParagraphArrays → ParagraphOut × ParagraphArrays → Type 0
ShowsParagraph wanted (Some start) (Some first_line) (Some laid) status old new =
    (new.0 ≡ paragraph_out start first_line laid) × PutsParagraph wanted laid status old.1 new.1
ShowsParagraph wanted start first_line laid status old new = (status ≡ is.OutOfRange) × (new ≡ old)
