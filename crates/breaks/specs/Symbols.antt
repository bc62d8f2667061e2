-- Each symbol represents the part of a character that the rules read.
use Rattle.std.specs.Prelude.{ℕ, true, false, ◌&&◌, List, [], ◌∷◌, ◌++◌, get_or, map, if◌then◌else◌}
use Rattle.ucd.specs.declared.line_class.LineClass.{LineClass}
use Rattle.ucd.specs.declared.line_class.LineClass.TheVariants as class
use Rattle.ucd.specs.declared.line_detail.LineDetail.{LineDetail}
use Rattle.ucd.specs.declared.line_detail.LineDetail.TheVariants.{DottedCircle, Final, Initial, Plain}
use Rattle.ucd.specs.declared.properties.Properties.{Properties}
use Rattle.ucd.specs.declared.version.Version.{Version}
use Rattle.ucd.specs.Answers.{LineAnswers, line_answers}
use Rattle.breaks.specs.Bases.{Character, known, known_detail, resolved}
use Rattle.breaks.specs.Classes.{is_one_of}

-- the character with these properties, reduced to what the rules of a version need
abbrev pub character_in : Version → LineAnswers → Character
character_in v a = record {
  class = resolved (known v a.line_class) a.is_mark;
  detail = known_detail v a.line_detail;
  is_wide = a.is_wide;
  is_future_pictograph = a.is_future_pictograph;
}

abbrev pub character_by : Version → Properties → Character
character_by v p = character_in v (line_answers p)

-- The part of a character that the rules of 15.0 read. LB30 needs the width only for parentheses. LB30b reads
-- the pictograph property only of the base before a position, and the walk records that property.
abbrev pub as_read : Character → Character
as_read c = record {
  class = c.class;
  detail = Plain;
  is_wide = is_one_of (class.CP ∷ class.OP ∷ []) c.class && c.is_wide;
  is_future_pictograph = false;
}

abbrev pub narrow : LineClass → Character
narrow class = record { class = class; detail = Plain; is_wide = false; is_future_pictograph = false }

abbrev pub wide : LineClass → Character
wide class = record { class = class; detail = Plain; is_wide = true; is_future_pictograph = false }

-- the characters represented by the first symbols, which both versions have, in the order of the symbols
abbrev pub first_symbols : List Character
first_symbols =
    narrow class.BK ∷
    narrow class.CR ∷
    narrow class.LF ∷
    narrow class.NL ∷
    narrow class.SP ∷
    narrow class.ZW ∷
    narrow class.WJ ∷
    narrow class.GL ∷
    narrow class.CL ∷
    narrow class.CP ∷
    wide class.CP ∷
    narrow class.EX ∷
    narrow class.IS ∷
    narrow class.SY ∷
    narrow class.OP ∷
    wide class.OP ∷
    narrow class.QU ∷
    narrow class.B2 ∷
    narrow class.CB ∷
    narrow class.BA ∷
    narrow class.HY ∷
    narrow class.NS ∷
    narrow class.BB ∷
    narrow class.IN ∷
    narrow class.NU ∷
    narrow class.AL ∷
    narrow class.HL ∷
    narrow class.PR ∷
    narrow class.PO ∷
    narrow class.ID ∷
    narrow class.EB ∷
    narrow class.EM ∷
    narrow class.JL ∷
    narrow class.JV ∷
    narrow class.JT ∷
    narrow class.H2 ∷
    narrow class.H3 ∷
    narrow class.RI ∷
    []

-- the characters that the symbols of 15.0 represent
abbrev pub symbols : List Character
symbols = first_symbols ++ (narrow class.CM ∷ narrow class.ZWJ ∷ [])

abbrev pub shown : ℕ → Character
shown number = get_or symbols number (narrow class.XX)

-- The part of a character that the rules of 17.0 read, except for two properties. The walk records these: the
-- width of its base (LB19a), and whether it is a future pictograph (LB30b). Only QU and AL have a detail.
abbrev pub as_read_17 : Character → Character
as_read_17 c = record {
  class = c.class;
  detail = if is_one_of (class.QU ∷ class.AL ∷ []) c.class then c.detail else Plain;
  is_wide = is_one_of (class.CP ∷ class.OP ∷ []) c.class && c.is_wide;
  is_future_pictograph = false;
}

abbrev pub quote : LineDetail → Character
quote detail = record { class = class.QU; detail = detail; is_wide = false; is_future_pictograph = false }

abbrev pub dotted_circle : Character
dotted_circle = record { class = class.AL; detail = DottedCircle; is_wide = false; is_future_pictograph = false }

-- the characters that the symbols of 17.0 represent
abbrev pub symbols_17 : List Character
symbols_17 =
    first_symbols
    ++ (quote Initial ∷ quote Final ∷ dotted_circle
    ∷ map narrow (class.HH ∷ class.AK ∷ class.AP ∷ class.AS ∷ class.VF ∷ class.VI ∷ class.CM ∷ class.ZWJ ∷ []))

abbrev pub shown_17 : ℕ → Character
shown_17 number = get_or symbols_17 number (narrow class.XX)
