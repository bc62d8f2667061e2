-- The levels of a paragraph's characters before L1 (UAX #9, X1 to I2).
use Rattle.std.specs.Prelude.{ℕ, List, [], ◌∷◌, Option, map, fold, slice_index, slice_set, if◌then◌else◌}
use Rattle.ucd.specs.Tables.{class_of, bracket_of}
use Rattle.ucd.specs.declared.bracket.Bracket.{Bracket}
use Rattle.ucd.specs.declared.tables.Tables.{Tables}
use Rattle.ucd.specs.declared.bidi_class.BidiClass.{BidiClass}
use Rattle.bidi.specs.declared.base.Base.{Base}
use Rattle.bidi.specs.Base.{base_level_of}
use Rattle.bidi.specs.Brackets.{brackets}
use Rattle.ucd.specs.Classes.{class_at}
use Rattle.bidi.specs.Explicit.{directed, level_at, type_at}
use Rattle.ucd.specs.Classes.{is_removed}
use Rattle.bidi.specs.Sequences.{retained, sequences, first_of, sos, eos, direction}
use Rattle.bidi.specs.Weak.{weak}
use Rattle.bidi.specs.Neutral.{neutral, implicit_level}

-- the levels of one sequence at the given level, after the weak rules, the rule for bracket pairs, and the
-- neutral and implicit rules
abbrev pub sequence_levels : (ℕ → Option Bracket) → ℕ → BidiClass → BidiClass → List ℕ → List BidiClass → List ℕ
sequence_levels bracket_of level sos eos characters types =
    map (implicit_level level) (neutral (direction level) sos eos (brackets bracket_of (direction level) sos characters types (weak sos types)))

-- writes each value to `levels`, at the index that the corresponding item of `places` gives
abbrev pub put : List ℕ → List ℕ → List ℕ → List ℕ
put levels (place ∷ places) (value ∷ values) = put (slice_set levels place value) places values
put levels places values = levels

-- The levels of all sequences, written at the indices of the sequences' characters. The lists have one item
-- for each character that X9 keeps: its code point, class, explicit level and explicit type.
module _ (bracket_of : ℕ → Option Bracket) (base : ℕ) (characters : List ℕ) (classes : List BidiClass) (levels : List ℕ) (types : List BidiClass) where
  abbrev pub levels_in : List ℕ → List ℕ
  levels_in sequence = sequence_levels bracket_of (slice_index levels (first_of sequence))
      (sos base levels sequence) (eos base classes levels sequence) (map (slice_index characters) sequence) (map (class_at types) sequence)

  abbrev pub resolved : List ℕ
  resolved = fold (λ done sequence. put done sequence (levels_in sequence)) levels (sequences classes levels)

-- inserts a level for each character that X9 removed: the level of the nearest kept character before it, or
-- the paragraph level if there is none
abbrev pub put_back : ℕ → List BidiClass → List ℕ → List ℕ
put_back before [] levels = []
put_back before (class ∷ classes) [] = before ∷ put_back before classes []
put_back before (class ∷ classes) (level ∷ levels) =
    if is_removed class then before ∷ put_back before classes (level ∷ levels) else level ∷ put_back level classes levels

-- The levels of a paragraph, given its characters, their classes and the paragraph level. In the classes,
-- each FSI has been replaced by LRI or RLI.
abbrev pub levels_by : (ℕ → Option Bracket) → List ℕ → List BidiClass → ℕ → List ℕ
levels_by bracket_of text classes base =
    let places = retained classes in
    put_back base classes (resolved bracket_of base (map (slice_index text) places) (map (class_at classes) places) (map (level_at base classes) places) (map (type_at base classes) places))

abbrev pub paragraph_levels : (ℕ → Option Bracket) → List ℕ → List BidiClass → ℕ → List ℕ
paragraph_levels bracket_of text classes base = levels_by bracket_of text (directed classes) base

abbrev pub levels_of : Tables → List ℕ → Base → List ℕ
levels_of tables text base =
    let classes = map (class_of tables) text in paragraph_levels (bracket_of tables) text classes (base_level_of classes base)
