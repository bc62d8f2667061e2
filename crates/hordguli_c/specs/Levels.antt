-- The results of the functions on characters, without a session: levels and break marks of one paragraph, and properties.
use Rattle.std.specs.Prelude.{◌≡◌, ℕ, ◌+◌, ◌<◌, ◌≤◌, ◌⊎◌, Bool, List, length, map, All, unwrap_or, Option, Some, None, if◌then◌else◌}
use Rattle.std.specs.Char.{IsScalar}
use Rattle.ucd.specs.Answers.{bidi_tag, line_tag}
use Rattle.ucd.specs.Tables.{bracket_of, class_of, is_mark_in, is_wide_in, line_class_of, mirror_of}
use Rattle.ucd.specs.declared.bidi_class.BidiClass.{BidiClass}
use Rattle.ucd.specs.declared.bracket.Bracket.{Bracket}
use Rattle.ucd.specs.declared.line_class.LineClass.{LineClass}
use Rattle.ucd.specs.declared.tables.Tables.{Tables}
use Rattle.bidi.specs.Base.{base_level_of}
use Rattle.bidi.specs.Levels.{levels_of}
use Rattle.bidi.specs.declared.base.Base.{Base}
use Rattle.breaks.specs.Marks.{marks_of}
use Rattle.breaks.specs.declared.mark.Mark.{Mark}
use Rattle.breaks.specs.declared.mark.Mark.TheVariants.{Never, May, Must}
use Rattle.lines.specs.CharInfos.{columns_of}
use Rattle.hordguli_c.specs.Arrays.{put}
use Rattle.hordguli_c.specs.Calls.{Given, OrNoMemory}
use Rattle.hordguli_c.specs.declared.level_calls.CharacterOut.{CharacterOut}
use Rattle.hordguli_c.specs.declared.status.Status.{Status}
use Rattle.hordguli_c.specs.declared.status.Status.TheVariants as is

abbrev pub mark_number : Mark → ℕ
mark_number Never = 0
mark_number May = 1
mark_number Must = 2

-- the status if numbers were not converted to characters: a number is not a scalar value, or an allocation
-- failed
abbrev pub CharactersNot : List ℕ → Status → Type 0
CharactersNot numbers status =
    ((¬ All IsScalar numbers) × (status ≡ is.NotACharacter))
    ⊎ (All IsScalar numbers × (status ≡ is.NoMemory) × (0 < length numbers))

-- A call on characters succeeds only if all numbers are characters. The call may allocate if there is at least one
-- number.
abbrev pub OfCharacters : List ℕ → Status → Type 0 → Type 0 → Type 0
OfCharacters characters status unchanged done =
    Given (All IsScalar characters) is.NotACharacter status unchanged
    (OrNoMemory (0 < length characters) status unchanged done)

-- one number for each character is stored, if the numbers fit in the array
abbrev pub PutsEach : (List ℕ → List ℕ) → List ℕ → Status → List ℕ → List ℕ → Type 0
PutsEach numbers characters status old new =
    Given (length characters ≤ length old) is.NoRoom status (new ≡ old)
    (OfCharacters characters status (new ≡ old) ((status ≡ is.Ok) × (new ≡ put (numbers characters) old)))

-- the levels before L1 (UAX #9, X1 to I2), as a definition that proof search does not unfold
unfoldable pub levels_by : Tables → Base → List ℕ → List ℕ
levels_by tables base text = levels_of tables text base

abbrev pub PutsLevels : Base → List ℕ → Status → Tables → List ℕ → List ℕ → Type 0
PutsLevels base characters status tables = PutsEach (levels_by tables base) characters status

abbrev pub PutsMarks : Bool → List ℕ → Status → Tables → List ℕ → List ℕ → Type 0
PutsMarks whole_numbers characters status tables = PutsEach (λ text. map mark_number (marks_of tables whole_numbers text)) characters status

abbrev pub PutsBase : Base → List ℕ → Status → Tables → ℕ → ℕ → Type 0
PutsBase base characters status tables old new =
    OfCharacters characters status (new ≡ old)
    ((status ≡ is.Ok) × (new ≡ base_level_of (map (class_of tables) characters) base))

-- the number of a class is its index in the enum
unfoldable pub bidi_number : BidiClass → ℕ
bidi_number class = bidi_tag class

unfoldable pub line_number : LineClass → ℕ
line_number class = line_tag class

-- 1 for an opening bracket, 2 for a closing bracket, and otherwise 0
abbrev pub bracket_kind : Option Bracket → ℕ
bracket_kind None = 0
bracket_kind (Some bracket) = if bracket.opens then 1 else 2

-- the other bracket of a pair, or 0 if there is none
abbrev pub pair_of : Option Bracket → ℕ
pair_of None = 0
pair_of (Some bracket) = bracket.pair

-- the sum of 1 for a mark and 2 for a wide character; a character can be both
abbrev pub flags_of : Bool → Bool → ℕ
flags_of is_mark is_wide = (if is_mark then 1 else 0) + (if is_wide then 2 else 0)

abbrev pub character_out : Tables → ℕ → CharacterOut
character_out tables c = record {
  mirror = unwrap_or (mirror_of tables c) 0;
  pair = pair_of (bracket_of tables c);
  flags = flags_of (is_mark_in tables c) (is_wide_in tables c);
  bidi_class = bidi_number (class_of tables c);
  line_class = line_number (line_class_of tables c);
  columns = columns_of c;
  bracket = bracket_kind (bracket_of tables c);
}

-- one record for each character is stored, if all numbers are characters and the records fit
abbrev pub PutsProperties : List ℕ → Status → Tables → List CharacterOut → List CharacterOut → Type 0
PutsProperties characters status tables old new =
    Given (length characters ≤ length old) is.NoRoom status (new ≡ old)
    (Given (All IsScalar characters) is.NotACharacter status (new ≡ old)
    ((status ≡ is.Ok) × (new ≡ put (map (character_out tables) characters) old)))
