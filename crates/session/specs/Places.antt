-- Where the lines of a text start, and on which line a character is.
use Rattle.std.specs.Prelude.{ℕ, ◌+◌, ◌-◌, ◌<◌, nat_le, nat_lt, ◌==◌, ◌&&◌, ◌||◌, Bool, List, [], ◌∷◌, ◌++◌, length, map, take, count_by, slice_index, Option, Some, None, if◌then◌else◌}
use Rattle.lines.specs.Beginnings.{BeginInOrder}
use Rattle.lines.specs.Layouts.{cut_by, Layout, Rules}
use Rattle.session.specs.Kept.{lines_in, text_of}
use Rattle.session.specs.declared.places.Place.{Place}

-- the starts of the lines in a list of paragraphs whose first paragraph starts at `place`
abbrev pub lines_from : ℕ → List Layout → List ℕ
lines_from place [] = []
lines_from place (l ∷ kept) = map (λ line. place + line.start) l.lines ++ lines_from (place + length l.text) kept

-- the starts of the paragraphs in a list whose first paragraph starts at `place`
abbrev pub paragraphs_from : ℕ → List Layout → List ℕ
paragraphs_from place [] = []
paragraphs_from place (l ∷ kept) = place ∷ paragraphs_from (place + length l.text) kept

-- the starts of a text's lines
abbrev pub line_starts : List Layout → List ℕ
line_starts kept = lines_from 0 kept

-- the starts of a text's paragraphs
abbrev pub paragraph_starts : List Layout → List ℕ
paragraph_starts kept = paragraphs_from 0 kept

-- the index of a paragraph's first line: the number of lines of the paragraphs before it
abbrev pub first_line_at : List Layout → ℕ → Option ℕ
first_line_at kept index = if nat_lt index (length kept) then Some (length (lines_in (take index kept))) else None

-- how many starts are at or before a position
abbrev pub count_to : ℕ → List ℕ → ℕ
count_to pos starts = count_by (λ start. nat_le start pos) starts

-- the last paragraph and the last line that start at or before a position, and the offset of the position in
-- that line
abbrev pub place_in : List Layout → ℕ → Place
place_in kept pos = record {
  paragraph = count_to pos (paragraph_starts kept) - 1;
  line = count_to pos (line_starts kept) - 1;
  offset = pos - slice_index (line_starts kept) (count_to pos (line_starts kept) - 1);
}

-- the place of the end of a text, for a text at whose end a new paragraph would start
abbrev pub next_place : List Layout → Place
next_place kept = record { paragraph = length kept; line = length (lines_in kept); offset = 0 }

-- Whether a new paragraph would start at the end of a text. It would if the text is empty, or if there is a
-- paragraph boundary between two copies of the text's last character.
abbrev pub is_closed : Rules → List ℕ → Bool
is_closed rules text =
    let last = slice_index text (length text - 1) in
    length text == 0 || cut_by rules last last

-- The paragraph, line and offset of a position in a text. The end of the text is placed after the last
-- character or, if a new paragraph would start there, at the start of that paragraph. `None` past the end.
abbrev pub place_at : Rules → List Layout → ℕ → Option Place
place_at rules kept pos =
    if nat_lt (length (text_of kept)) pos then None
    else (if pos == length (text_of kept) && is_closed rules (text_of kept) then Some (next_place kept) else Some (place_in kept pos))

-- whether a paragraph is not empty, and the starts of its lines ascend
pub record IsLined (l : Layout) : Type 0 where
  pub some : 0 < length l.text
  pub lines : BeginInOrder l.text l.lines
