-- Worked examples of touched paragraphs, of refilling after a width change, and of lists of edits.
use Rattle.std.proofs.Common.{◌≡◌, ℕ, ◌==◌, Bool, false, List, [], ◌∷◌, Some, None, refl}
use Rattle.ucd.specs.declared.tables.Tables.{Tables}
use Rattle.bidi.specs.declared.base.Base.TheVariants.{WeakLtr}
use Rattle.lines.specs.Layouts.{Layout, Rules}
use Rattle.lines.specs.Visual.{Line}
use Rattle.session.specs.Edits.{after_all, deletion, insertion}
use Rattle.session.specs.Kept.{changed}
use Rattle.session.specs.Offsets.{offset_of, position_of}
use Rattle.session.specs.Places.{first_line_at, paragraph_starts}
use Rattle.session.specs.Touched.{first_touched, touched_count, fresh}
use Rattle.session.specs.declared.offsets.Encoding.TheVariants.{Utf8, Utf16}
use Rattle.session.specs.declared.edits.TheConstants.{TEXT_LIMIT}
use Rattle.session.specs.declared.edits.Edit.{Edit}
use Rattle.session.specs.declared.edits.Edit.TheVariants.{Delete, SetWidth}

-- "ab\ncd\nef"
abbrev three : List (List ℕ)
three = (97 ∷ 98 ∷ 10 ∷ []) ∷ (99 ∷ 100 ∷ 10 ∷ []) ∷ (101 ∷ 102 ∷ []) ∷ []

-- An insertion between two paragraphs touches both. An insertion inside a paragraph touches only that
-- paragraph.
between-two : (first_touched three (insertion 3 (120 ∷ [])) ≡ 0) × (touched_count three (insertion 3 (120 ∷ [])) ≡ 2) × (fresh three (insertion 3 (120 ∷ [])) ≡ 7)
between-two = (refl, refl, refl)

inside-one : (first_touched three (insertion 4 (120 ∷ [])) ≡ 1) × (touched_count three (insertion 4 (120 ∷ [])) ≡ 1) × (fresh three (insertion 4 (120 ∷ [])) ≡ 4)
inside-one = (refl, refl, refl)

over-three : (first_touched three (deletion 2 4) ≡ 0) × (touched_count three (deletion 2 4) ≡ 3) × (fresh three (deletion 2 4) ≡ 4)
over-three = (refl, refl, refl)

-- an edit of an empty text touches nothing
in-nothing : (first_touched [] (insertion 0 (120 ∷ [])) ≡ 0) × (touched_count [] (insertion 0 (120 ∷ [])) ≡ 0) × (fresh [] (insertion 0 (120 ∷ [])) ≡ 1)
in-nothing = (refl, refl, refl)

-- Three paragraphs, the second with two lines. At width 2, only the characters of the second are filled
-- again. At width 1, all characters are filled again.
abbrev line_of : ℕ → ℕ → Line
line_of start columns = record { start = start; columns = columns; levels = []; ltov = []; vtol = []; chars = [] }

abbrev laid : List ℕ → List Line → Layout
laid text lines = record { text = text; advances = None; base = 0; tab_width = 0; levels = []; marks = []; ends = []; lines = lines }

abbrev three_laid : List Layout
three_laid =
    laid (97 ∷ 98 ∷ 10 ∷ []) (line_of 0 2 ∷ [])
    ∷ laid (99 ∷ 100 ∷ 10 ∷ []) (line_of 0 1 ∷ line_of 1 1 ∷ [])
    ∷ laid (101 ∷ 102 ∷ []) (line_of 0 2 ∷ []) ∷ []

abbrev default_rules : Tables → Rules
default_rules tables = record {
  tables = tables;
  options = record { base = WeakLtr; nobreak = false; reordernsm = false; whole_numbers = false; reorder_clusters = false; show_spaces = false; tab_width = 0 };
  advances = None;
}

changed-of-three : (tables : Tables)
    → (changed (default_rules tables) 2 three_laid ≡ 3) × (changed (default_rules tables) 1 three_laid ≡ 8) × (changed (default_rules tables) 2 [] ≡ 0)
changed-of-three tables = (refl, refl, refl)

-- the three paragraphs start at 0, 3 and 6, on the lines 0, 1 and 3
starts-of-three : (paragraph_starts three_laid ≡ 0 ∷ 3 ∷ 6 ∷ []) × (first_line_at three_laid 0 ≡ Some 0) × (first_line_at three_laid 1 ≡ Some 1)
    × (first_line_at three_laid 2 ≡ Some 3) × (first_line_at three_laid 3 ≡ None)
starts-of-three = (refl, refl, refl, refl, refl)

-- refused edits change nothing
abbrev after_newline : ℕ → ℕ → Bool
after_newline before after = before == 10

abbrev four_edits : List Edit
four_edits = SetWidth 0 ∷ SetWidth 5 ∷ Delete 2 2 ∷ Delete 0 1 ∷ []

after-four : after_all after_newline (record { text = 97 ∷ 10 ∷ 98 ∷ []; width = 80; advances = None }) four_edits ≡ record { text = 10 ∷ 98 ∷ []; width = 5; advances = None }
after-four = refl

-- the greatest length of a text, in characters
text_limit : TEXT_LIMIT ≡ 16777216
text_limit = refl

-- "a", U+05D0, U+1F600, "b": 1, 2, 4 and 1 bytes, 1, 1, 2 and 1 code units
abbrev four_sizes : List ℕ
four_sizes = 0x61 ∷ 0x5D0 ∷ 0x1F600 ∷ 0x62 ∷ []

bytes-before : (offset_of Utf8 four_sizes 0 ≡ Some 0) × (offset_of Utf8 four_sizes 2 ≡ Some 3) × (offset_of Utf8 four_sizes 3 ≡ Some 7)
    × (offset_of Utf8 four_sizes 4 ≡ Some 8) × (offset_of Utf8 four_sizes 5 ≡ None)
bytes-before = (refl, refl, refl, refl, refl)

units-before : (offset_of Utf16 four_sizes 2 ≡ Some 2) × (offset_of Utf16 four_sizes 3 ≡ Some 4) × (offset_of Utf16 four_sizes 4 ≡ Some 5)
units-before = (refl, refl, refl)

positions-of-bytes : (position_of Utf8 four_sizes 0 ≡ Some (0, 0)) × (position_of Utf8 four_sizes 2 ≡ Some (1, 1)) × (position_of Utf8 four_sizes 6 ≡ Some (2, 3))
    × (position_of Utf8 four_sizes 7 ≡ Some (3, 0)) × (position_of Utf8 four_sizes 8 ≡ Some (4, 0)) × (position_of Utf8 four_sizes 9 ≡ None)
positions-of-bytes = (refl, refl, refl, refl, refl, refl)

positions-of-units : (position_of Utf16 four_sizes 3 ≡ Some (2, 1)) × (position_of Utf16 four_sizes 5 ≡ Some (4, 0)) × (position_of Utf16 [] 0 ≡ Some (0, 0))
positions-of-units = (refl, refl, refl)
