-- The levels of adjacent characters of the same kind.
use Rattle.std.specs.Prelude.{◌≡◌, ℕ, zero, suc, Bool, true, false, List, [], ◌∷◌, ◌++◌, length, None, map}
use Rattle.ucd.specs.Tables.{class_of, bracket_of}
use Rattle.ucd.specs.declared.bidi_class.BidiClass.{BidiClass}
use Rattle.ucd.specs.declared.bidi_class.BidiClass.TheVariants.{L, R, AL, EN, ET, AN, S, WS, ON}
use Rattle.ucd.specs.declared.tables.Tables.{Tables}
use Rattle.bidi.specs.declared.base.Base.{Base}
use Rattle.bidi.specs.Base.{base_level_of}
use Rattle.bidi.specs.Levels.{levels_of}

-- the list with the item at index k repeated, or the same list if it has no such item
abbrev pub double : {T : Type 0} → ℕ → List T → List T
double k [] = []
double zero (item ∷ items) = item ∷ item ∷ items
double (suc k) (item ∷ items) = item ∷ double k items

-- The classes for which doubling a character is proved to change no other level. CS and ES are excluded,
-- because W4 changes a single separator between numbers, but not two.
abbrev pub can_be_doubled : BidiClass → Bool
can_be_doubled L = true
can_be_doubled R = true
can_be_doubled AL = true
can_be_doubled EN = true
can_be_doubled ET = true
can_be_doubled AN = true
can_be_doubled S = true
can_be_doubled WS = true
can_be_doubled ON = true
can_be_doubled class = false

-- c and d have the same class, and neither is a bracket
pub record AreOfOneKind (tables : Tables) (c d : ℕ) : Type 0 where
  pub class : class_of tables c ≡ class_of tables d
  pub first : bracket_of tables c ≡ None
  pub second : bracket_of tables d ≡ None

-- Replacing a character with one of the same kind changes no level. Let c be a character whose class can be
-- doubled. If a character of the same kind is inserted directly after or before c, both get the level that c
-- had. No other level changes, nor does the paragraph level.
pub record DoublingKeepsLevels : Type 0 where
  pub replaced : (tables : Tables) (before after : List ℕ) (c d : ℕ) (base : Base) → AreOfOneKind tables c d
      → levels_of tables (before ++ d ∷ after) base ≡ levels_of tables (before ++ c ∷ after) base
  pub inserted_after : (tables : Tables) (before after : List ℕ) (c d : ℕ) (base : Base) → AreOfOneKind tables c d → can_be_doubled (class_of tables c) ≡ true
      → levels_of tables (before ++ c ∷ d ∷ after) base ≡ double (length before) (levels_of tables (before ++ c ∷ after) base)
  pub inserted_before : (tables : Tables) (before after : List ℕ) (c d : ℕ) (base : Base) → AreOfOneKind tables c d → can_be_doubled (class_of tables c) ≡ true
      → levels_of tables (before ++ d ∷ c ∷ after) base ≡ double (length before) (levels_of tables (before ++ c ∷ after) base)
  pub base_level : (tables : Tables) (before after : List ℕ) (c d : ℕ) (base : Base) → AreOfOneKind tables c d → can_be_doubled (class_of tables c) ≡ true
      → base_level_of (map (class_of tables) (before ++ c ∷ d ∷ after)) base ≡ base_level_of (map (class_of tables) (before ++ c ∷ after)) base
