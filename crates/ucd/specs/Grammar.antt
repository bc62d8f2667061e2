-- The grammar of a table file of the Unicode Character Database (UAX #44, section 4.2), as in docs/reference.md.
use Rattle.std.specs.Prelude.{ℕ, ◌+◌, ◌*◌, ◌-◌, nat_lt, nat_le, ◌==◌, ◌&&◌, not, Bool, true, List, [], ◌∷◌, length, map, fold, take, drop, Option, Some, None, Result, Ok, Err, if◌then◌else◌}
use Rattle.std.specs.List.{slice_split, before_first, after_first, prefix_len, suffix_len, list_all, list_any}
use Rattle.std.specs.Char.{is_ascii, is_ascii_hexdigit, digit_value}
use Rattle.ucd.specs.declared.fault.Cause.{Cause}
use Rattle.ucd.specs.declared.fault.Cause.TheVariants as cause
use Rattle.ucd.specs.declared.grammar.Entry.{Entry}

-- whether a byte is the given separator, which can separate lines, fields, or the ends of a range
abbrev pub is_delimiter : ℕ → ℕ → Bool
is_delimiter delimiter b = b == delimiter

-- A line ends at U+000A, which is optional on the last line. If a file ends with U+000A, its last line is
-- empty.
abbrev pub lines_of : List ℕ → List (List ℕ)
lines_of file = slice_split (is_delimiter 10) file

-- removes the bytes at both ends that pass the test
abbrev pub trimmed : (ℕ → Bool) → List ℕ → List ℕ
trimmed p bytes = let rest = drop (prefix_len p bytes) bytes in take (length rest - suffix_len p rest) rest

-- White space around fields consists of spaces and tabs. White space at the ends of a line can also include U+000D.
abbrev pub is_one_of : List ℕ → ℕ → Bool
is_one_of bytes b = list_any (λ byte. byte == b) bytes

abbrev pub spaces : List ℕ
spaces = 32 ∷ 9 ∷ []

abbrev pub blanks : List ℕ
blanks = 32 ∷ 9 ∷ 13 ∷ []

-- the part of a line before the first `#`
abbrev pub before_comment : List ℕ → List ℕ
before_comment line = before_first (is_delimiter 35) line

-- the part of a line before the first `#`, without the white space at both ends
abbrev pub content_of : List ℕ → List ℕ
content_of line = trimmed (is_one_of blanks) (before_comment line)

-- the fields of a line, which are separated by `;`
abbrev pub fields_of : List ℕ → List (List ℕ)
fields_of content = map (trimmed (is_one_of spaces)) (slice_split (is_delimiter 59) content)

-- the number that hexadecimal digits denote
abbrev pub hex_value : List ℕ → ℕ
hex_value digits = fold (λ n d. 16 * n + digit_value d) 0 digits

-- whether the bytes denote a code point: 4 to 6 hexadecimal digits, at most 10FFFF
abbrev pub is_code_point : List ℕ → Bool
is_code_point digits = nat_le 4 (length digits) && (nat_le (length digits) 6 && (list_all is_ascii_hexdigit digits && nat_le (hex_value digits) 0x10FFFF))

abbrev pub code_point : List ℕ → Option ℕ
code_point digits = if is_code_point digits then Some (hex_value digits) else None

-- The first and last code points of a field of the form `X` or, if the file has ranges, `X..Y`. `points_by`
-- takes the parts of the field between dots.
abbrev pub both : Option ℕ → Option ℕ → Option (ℕ × ℕ)
both (Some x) (Some y) = Some (x, y)
both (Some x) None = None
both None y = None

abbrev pub points_by : Bool → List (List ℕ) → Option (ℕ × ℕ)
points_by has_ranges (x ∷ []) = both (code_point x) (code_point x)
points_by true (x ∷ [] ∷ y ∷ []) = both (code_point x) (code_point y)
points_by has_ranges parts = None

abbrev pub points_of : Bool → List ℕ → Option (ℕ × ℕ)
points_of has_ranges field = points_by has_ranges (slice_split (is_delimiter 46) field)

-- The form of a file's lines: whether the first field may be a range, and whether there is a third field.
-- `value` parses the second and third fields. It returns `None` if the value is unknown, and `Some None` if
-- the line has no entry.
pub record Form (V : Type 0) : Type 0 where
  pub has_ranges : Bool
  pub has_third : Bool
  pub value : List ℕ → List ℕ → Option (Option V)

-- The result of parsing a line: no entry, an entry with its range and value, or the cause that the first
-- failing test reports.
module _ {V : Type 0} (form : Form V) where
  abbrev pub by_value : ℕ → ℕ → Option (Option V) → Result (Option (Entry V)) Cause
  by_value first last None = Err cause.Value
  by_value first last (Some None) = Ok None
  by_value first last (Some (Some v)) = Ok (Some (record { first = first; last = last; value = v }))

  abbrev pub by_points : Option (ℕ × ℕ) → Option (Option V) → Result (Option (Entry V)) Cause
  by_points None value = Err cause.CodePoint
  by_points (Some (first, last)) value = if nat_lt last first then Err cause.Reversed else by_value first last value

  abbrev pub by_fields : List (List ℕ) → Result (Option (Entry V)) Cause
  by_fields (points ∷ second ∷ []) =
      if form.has_third then Err cause.FieldCount else by_points (points_of form.has_ranges points) (form.value second [])
  by_fields (points ∷ second ∷ third ∷ []) =
      if form.has_third then by_points (points_of form.has_ranges points) (form.value second third) else Err cause.FieldCount
  by_fields fields = Err cause.FieldCount

  abbrev pub reading_of : List ℕ → Result (Option (Entry V)) Cause
  reading_of line =
      if not (list_all is_ascii (before_comment line)) then Err cause.NotAscii
      else (if length (content_of line) == 0 then Ok None else by_fields (fields_of (content_of line)))

-- the bytes after the first separator, if there is one
abbrev pub rest_after : ℕ → List ℕ → Option (List ℕ)
rest_after delimiter bytes = if list_any (is_delimiter delimiter) bytes then Some (after_first (is_delimiter delimiter) bytes) else None

-- the parts between separators: the first part, followed by the parts of the rest
abbrev pub parts_of : ℕ → List ℕ → Option (List ℕ) → List (List ℕ)
parts_of delimiter front None = front ∷ []
parts_of delimiter front (Some rest) = front ∷ slice_split (is_delimiter delimiter) rest
