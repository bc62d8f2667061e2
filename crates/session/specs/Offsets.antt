-- Positions of a text as offsets in the units of an encoding: UTF-8 bytes or UTF-16 code units.
use Rattle.std.specs.Prelude.{◌≡◌, ℕ, ◌+◌, ◌-◌, ◌<◌, nat_le, nat_lt, List, ◌∷◌, ◌++◌, length, take, sum_by, option_map, Option, Some, None, if◌then◌else◌}
use Rattle.std.specs.Char.{len_utf8}
use Rattle.bidi.specs.Brackets.{greatest}
use Rattle.lines.specs.Layouts.{Layout}
use Rattle.store.specs.declared.found.Found.{Found}
use Rattle.session.specs.declared.offsets.Encoding.{Encoding}
use Rattle.session.specs.declared.offsets.Encoding.TheVariants.{Utf8, Utf16}

-- the number of UTF-16 code units of a character
abbrev pub len_utf16 : ℕ → ℕ
len_utf16 c = if nat_lt c 0x1_0000 then 1 else 2

-- the number of units of a character
abbrev pub size_in : Encoding → ℕ → ℕ
size_in Utf8 = len_utf8
size_in Utf16 = len_utf16

-- the number of units of a text
abbrev pub length_in : Encoding → List ℕ → ℕ
length_in encoding text = sum_by (size_in encoding) text

-- the number of units of a paragraph's text
abbrev pub units_of : Encoding → Layout → ℕ
units_of encoding kept = length_in encoding kept.text

-- the number of units before a position; `None` past the end
abbrev pub offset_of : Encoding → List ℕ → ℕ → Option ℕ
offset_of encoding text pos = if nat_lt (length text) pos then None else Some (length_in encoding (take pos text))

-- the last position with at most `offset` units before it, and how many units of the character at that
-- position precede the offset; `None` past the end
abbrev pub position_of : Encoding → List ℕ → ℕ → Option (ℕ × ℕ)
position_of encoding text offset =
    if nat_lt (length_in encoding text) offset then None
    else option_map (λ pos. (pos, offset - length_in encoding (take pos text)))
    (greatest (λ pos. nat_le (length_in encoding (take pos text)) offset) (length text + 1))

-- unit `offset` of the text is unit `rest` of the character at `pos`
pub record IsUnitAt (encoding : Encoding) (text : List ℕ) (offset pos rest : ℕ) : Type 0 where
  pub before : List ℕ
  pub char : ℕ
  pub after : List ℕ
  pub place : text ≡ before ++ char ∷ after
  pub pos_is : pos ≡ length before
  pub rest_is : length_in encoding before + rest ≡ offset
  pub within : rest < size_in encoding char

-- the number of units in all paragraphs before the found one
abbrev pub before_in : Encoding → Found → ℕ
before_in Utf8 found = found.bytes_before
before_in Utf16 found = found.utf16_before
