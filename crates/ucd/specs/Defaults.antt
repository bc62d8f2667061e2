-- Properties that depend only on the version: the defaults of code points that the files do not list, and the
-- detail of U+25CC.
use Rattle.std.specs.Prelude.{ℕ, List, [], ◌∷◌, unwrap_or}
use Rattle.ucd.specs.Entries.{value_at}
use Rattle.ucd.specs.declared.bidi_class.BidiClass.{BidiClass}
use Rattle.ucd.specs.declared.bidi_class.BidiClass.TheVariants.{L, R, AL, ET}
use Rattle.ucd.specs.declared.dotted_circle.Circle.{Circle}
use Rattle.ucd.specs.declared.grammar.Entry.{Entry}
use Rattle.ucd.specs.declared.version.Version.{Version}
use Rattle.ucd.specs.declared.version.Version.TheVariants.{V15_0, V17_0}

abbrev pub missing : ℕ → ℕ → BidiClass → Entry BidiClass
missing first last class = record { first = first; last = last; value = class }

-- The `@missing` lines of DerivedBidiClass.txt of Unicode 17.0, except the first one, which assigns class L to
-- all other code points. tests/ucd/run compares this list with the file.
unfoldable pub missing_17 : List (Entry BidiClass)
missing_17 =
    missing 0x0590 0x05FF R
    ∷ missing 0x0600 0x07BF AL
    ∷ missing 0x07C0 0x085F R
    ∷ missing 0x0860 0x08FF AL
    ∷ missing 0x20A0 0x20CF ET
    ∷ missing 0xFB1D 0xFB4F R
    ∷ missing 0xFB50 0xFDCF AL
    ∷ missing 0xFDF0 0xFDFF AL
    ∷ missing 0xFE70 0xFEFF AL
    ∷ missing 0x10800 0x10CFF R
    ∷ missing 0x10D00 0x10D3F AL
    ∷ missing 0x10D40 0x10EBF R
    ∷ missing 0x10EC0 0x10EFF AL
    ∷ missing 0x10F00 0x10F2F R
    ∷ missing 0x10F30 0x10F6F AL
    ∷ missing 0x10F70 0x10FFF R
    ∷ missing 0x1E800 0x1EC6F R
    ∷ missing 0x1EC70 0x1ECBF AL
    ∷ missing 0x1ECC0 0x1ECFF R
    ∷ missing 0x1ED00 0x1ED4F AL
    ∷ missing 0x1ED50 0x1EDFF R
    ∷ missing 0x1EE00 0x1EEFF AL
    ∷ missing 0x1EF00 0x1EFFF R
    ∷ []

abbrev pub default_entries : Version → List (Entry BidiClass)
default_entries V15_0 = []
default_entries V17_0 = missing_17

-- the bidi class of a code point that no line of DerivedBidiClass.txt lists
abbrev pub default_class : Version → ℕ → BidiClass
default_class version c = unwrap_or (value_at (default_entries version) c) L

-- U+25CC DOTTED CIRCLE has a detail in Unicode 17.0
abbrev pub circle_entries : Version → List (Entry Circle)
circle_entries V15_0 = []
circle_entries V17_0 = record { first = 0x25CC; last = 0x25CC; value = record {} } ∷ []
