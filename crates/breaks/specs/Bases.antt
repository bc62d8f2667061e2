-- The bases of a paragraph, each of which is a character with the combining marks and ZWJs that join it (UAX
-- #14, LB1, LB9 and LB10).
use Rattle.std.specs.Prelude.{ℕ, Bool, true, false, not, ◌&&◌, List, [], ◌∷◌, if◌then◌else◌}
use Rattle.ucd.specs.Tables.{line_class_of, line_detail_of, is_wide_in, is_mark_in, is_future_pictograph_in}
use Rattle.ucd.specs.declared.line_class.LineClass.{LineClass}
use Rattle.ucd.specs.declared.line_class.LineClass.TheVariants.{AI, AK, AL, AP, AS, BK, CJ, CM, CR, HH, LF, NL, NS, SA, SG, SP, VF, VI, XX, ZW, ZWJ}
use Rattle.ucd.specs.declared.line_detail.LineDetail.{LineDetail}
use Rattle.ucd.specs.declared.line_detail.LineDetail.TheVariants.{Plain}
use Rattle.ucd.specs.declared.tables.Tables.{Tables}
use Rattle.ucd.specs.declared.version.Version.{Version}
use Rattle.ucd.specs.declared.version.Version.TheVariants.{V15_0, V17_0}
use Rattle.breaks.specs.Classes.{is_one_of}

-- LB1: AI, SG and XX become AL, and CJ becomes NS. SA becomes CM for a mark of category Mn or Mc, and AL
-- otherwise.
abbrev pub resolved : LineClass → Bool → LineClass
resolved AI is_mark = AL
resolved SG is_mark = AL
resolved XX is_mark = AL
resolved SA true = CM
resolved SA false = AL
resolved CJ is_mark = NS
resolved class is_mark = class

-- The class itself if it exists in the version, or else XX. Tables of Unicode 15.0 contain no class that
-- becomes XX here.
abbrev pub known : Version → LineClass → LineClass
known V17_0 class = class
known V15_0 AK = XX
known V15_0 AP = XX
known V15_0 AS = XX
known V15_0 HH = XX
known V15_0 VF = XX
known V15_0 VI = XX
known V15_0 class = class

-- the detail itself if the version has details, or else `Plain`
abbrev pub known_detail : Version → LineDetail → LineDetail
known_detail V15_0 detail = Plain
known_detail V17_0 detail = detail

-- what the rules need to know about a character, including its class after LB1
pub record Character : Type 0 where
  pub class : LineClass
  pub detail : LineDetail
  pub is_wide : Bool
  pub is_future_pictograph : Bool

-- the character with code point c and its properties from the tables
abbrev pub character : Tables → ℕ → Character
character t c = record {
  class = resolved (known t.version (line_class_of t c)) (is_mark_in t c);
  detail = known_detail t.version (line_detail_of t c);
  is_wide = is_wide_in t c;
  is_future_pictograph = is_future_pictograph_in t c;
}

-- a base: a character, and the combining marks and ZWJs that join it
pub record BaseCharacter : Type 0 where
  pub first : Character
  pub attached : List Character

-- LB9: a CM or ZWJ joins the character before it, unless that character is BK, CR, LF, NL, SP or ZW
abbrev pub stays_with : Character → Character → Bool
stays_with before c =
    is_one_of (CM ∷ ZWJ ∷ []) c.class && not (is_one_of (BK ∷ CR ∷ LF ∷ NL ∷ SP ∷ ZW ∷ []) before.class)

-- a character as a base of its own
abbrev pub alone : Character → BaseCharacter
alone c = record { first = c; attached = [] }

-- Adds a character in front of a list of bases. The character becomes the new first character of the first
-- base, or the only base if the list is empty.
abbrev pub joined : Character → List BaseCharacter → List BaseCharacter
joined c [] = alone c ∷ []
joined c (b ∷ bases) = record { first = c; attached = b.first ∷ b.attached } ∷ bases

-- the bases of a list of characters
abbrev pub bases_of : List Character → List BaseCharacter
bases_of [] = []
bases_of (a ∷ []) = alone a ∷ []
bases_of (a ∷ b ∷ text) = if stays_with a b then joined a (bases_of (b ∷ text)) else alone a ∷ bases_of (b ∷ text)

-- A base has the class, the width and the pictograph property of its first character. LB10: a CM or ZWJ that joins no
-- character is AL.
abbrev pub base_class : LineClass → LineClass
base_class CM = AL
base_class ZWJ = AL
base_class class = class

abbrev pub class_of : BaseCharacter → LineClass
class_of b = base_class b.first.class

-- whether a base has East Asian width F, W or H; a CM or ZWJ that LB10 treats as AL does not count as wide
abbrev pub is_east_asian : BaseCharacter → Bool
is_east_asian b = b.first.is_wide && not (is_one_of (CM ∷ ZWJ ∷ []) b.first.class)

-- the last character of a base
abbrev pub last_of : Character → List Character → Character
last_of first [] = first
last_of first (c ∷ attached) = last_of c attached

abbrev pub end_of : BaseCharacter → Character
end_of b = last_of b.first b.attached
