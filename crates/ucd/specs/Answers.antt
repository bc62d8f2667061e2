-- The properties of one character, and the 16 bits that encode them.
use Rattle.std.specs.Prelude.{ℕ, ◌+◌, ◌*◌, ◌/◌, ◌%◌, ◌<◌, ◌==◌, Bool, false, slice_index_or, if◌then◌else◌}
use Rattle.ucd.specs.declared.bidi_class.TheConstants.{BIDI_CLASS_COUNT}
use Rattle.ucd.specs.declared.bidi_class.BidiClass.{BidiClass}
use Rattle.ucd.specs.declared.bidi_class.BidiClass.TheVariants.{L}
use Rattle.ucd.specs.declared.line_class.TheConstants.{LINE_NUMBER_COUNT}
use Rattle.ucd.specs.declared.line_class.LineClass.{LineClass}
use Rattle.ucd.specs.declared.line_class.LineClass.TheVariants.{BK, AI, AL, SG, XX}
use Rattle.ucd.specs.declared.line_detail.LineDetail.{LineDetail}
use Rattle.ucd.specs.declared.line_detail.LineDetail.TheVariants.{Plain, Initial, Final, DottedCircle}
use Rattle.ucd.specs.BidiClasses as bidi
use Rattle.ucd.specs.LineNumbers.{numbered_classes, numbered_details}
use Rattle.ucd.specs.contracts.bidi_class.BidiClass as bidi_type
use Rattle.ucd.specs.contracts.line_class.LineClass as line_type
use denote.Enum.Declared.{tag_of}

pub record PropertyAnswers : Type 0 where
  pub bidi_class : BidiClass
  pub line_class : LineClass
  pub line_detail : LineDetail
  pub is_wide : Bool
  pub is_mark : Bool
  pub is_future_pictograph : Bool
  pub has_bracket : Bool
  pub has_mirror : Bool

-- the properties of a character that no line lists
abbrev pub unnamed : PropertyAnswers
unnamed = record {
  bidi_class = L;
  line_class = XX;
  line_detail = Plain;
  is_wide = false;
  is_mark = false;
  is_future_pictograph = false;
  has_bracket = false;
  has_mirror = false;
}

-- the index of a bidi class in its enum
abbrev pub bidi_tag : BidiClass → ℕ
bidi_tag class = tag_of bidi_type.the_type class

-- the bidi class at an index of the enum, or L past the end
abbrev pub bidi_class_at : ℕ → BidiClass
bidi_class_at place = slice_index_or bidi.all_classes place L

-- the class that a line-breaking number encodes, or BK if the number is out of range
abbrev pub line_class_at : ℕ → LineClass
line_class_at number = slice_index_or numbered_classes number BK

-- the detail that a line-breaking number encodes, or `Plain` if the number is out of range
abbrev pub line_detail_at : ℕ → LineDetail
line_detail_at number = slice_index_or numbered_details number Plain

-- the index of a line breaking class in its enum
abbrev pub line_tag : LineClass → ℕ
line_tag class = tag_of line_type.the_type class

-- the line-breaking number of U+25CC with the detail `DottedCircle`, given its class
abbrev pub circle_number : LineClass → ℕ
circle_number AL = 51
circle_number AI = 52
circle_number SG = 53
circle_number XX = 54
circle_number _ = 55

-- the line-breaking number of a class and a detail
abbrev pub line_number : LineClass → LineDetail → ℕ
line_number class Plain = line_tag class
line_number class Initial = 49
line_number class Final = 50
line_number class DottedCircle = circle_number class

-- The bits, from the lowest: five for the bidi class, five flags, and six for the line-breaking number. All 16
-- are used. The flags are, in order: bracket, mirror, future pictograph, mark and wide.
abbrev pub bit : Bool → ℕ
bit b = if b then 1 else 0

abbrev pub bits_of : PropertyAnswers → ℕ
bits_of a = bidi_tag a.bidi_class + 32 * bit a.has_bracket + 64 * bit a.has_mirror + 128 * bit a.is_future_pictograph
    + 256 * bit a.is_mark + 512 * bit a.is_wide + 1024 * line_number a.line_class a.line_detail

abbrev pub answers_in : ℕ → PropertyAnswers
answers_in bits = record {
  bidi_class = bidi_class_at (bits % 32);
  has_bracket = bits / 32 % 2 == 1;
  has_mirror = bits / 64 % 2 == 1;
  is_future_pictograph = bits / 128 % 2 == 1;
  is_mark = bits / 256 % 2 == 1;
  is_wide = bits / 512 % 2 == 1;
  line_class = line_class_at (bits / 1024);
  line_detail = line_detail_at (bits / 1024);
}

-- `bits` encode the properties of a character: the index of the bidi class and the line-breaking number are in range
pub record AreBits (bits : ℕ) : Type 0 where
  pub bidi : bits % 32 < BIDI_CLASS_COUNT
  pub line : bits / 1024 < LINE_NUMBER_COUNT

-- the properties that line breaking needs, encoded as one number
abbrev pub line_index : PropertyAnswers → ℕ
line_index a =
    line_number a.line_class a.line_detail * 8 + (if a.is_wide then 4 else 0) + (if a.is_mark then 2 else 0) + (if a.is_future_pictograph then 1 else 0)

-- the properties that line breaking needs, and their decoding from that number
pub record LineAnswers : Type 0 where
  pub line_class : LineClass
  pub line_detail : LineDetail
  pub is_wide : Bool
  pub is_mark : Bool
  pub is_future_pictograph : Bool

abbrev pub line_answers : PropertyAnswers → LineAnswers
line_answers a = record {
  line_class = a.line_class;
  line_detail = a.line_detail;
  is_wide = a.is_wide;
  is_mark = a.is_mark;
  is_future_pictograph = a.is_future_pictograph;
}

abbrev pub line_answers_at : ℕ → LineAnswers
line_answers_at index = record {
  line_class = line_class_at (index / 8);
  line_detail = line_detail_at (index / 8);
  is_wide = index / 4 % 2 == 1;
  is_mark = index / 2 % 2 == 1;
  is_future_pictograph = index % 2 == 1;
}
