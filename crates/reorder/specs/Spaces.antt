-- The levels of a line after L1 (UAX #9, section 3.4), given the classes in the tables.
use Rattle.std.specs.Prelude.{ℕ, Bool, true, false, ◌&&◌, ◌||◌, List, [], ◌∷◌, if◌then◌else◌}
use Rattle.ucd.specs.declared.bidi_class.BidiClass.{BidiClass}
use Rattle.ucd.specs.declared.bidi_class.BidiClass.TheVariants.{B, S, WS}
use Rattle.ucd.specs.Classes.{is_initiator, is_pdi}
use Rattle.ucd.specs.Classes.{is_removed}

-- whether characters of a class are segment or paragraph separators
abbrev pub ends_segment : BidiClass → Bool
ends_segment S = true
ends_segment B = true
ends_segment class = false

-- whether characters of a class are whitespace, isolate initiators or PDI, or are removed by X9
abbrev pub is_blank : BidiClass → Bool
is_blank WS = true
is_blank class = is_initiator class || is_pdi class || is_removed class

-- Whether the level of the first character is reset to the paragraph level. The level of a separator is always reset.
-- The level of a blank is reset if only blanks are between it and the next separator or the end of the line.
abbrev pub is_reset : List BidiClass → Bool
is_reset [] = true
is_reset (class ∷ classes) = ends_segment class || (is_blank class && is_reset classes)

-- the levels of a line after L1
abbrev pub line_levels : ℕ → List BidiClass → List ℕ → List ℕ
line_levels base (class ∷ classes) (level ∷ levels) =
    (if is_reset (class ∷ classes) then base else level) ∷ line_levels base classes levels
line_levels base classes levels = []
