-- Doubled characters: a character directly next to another one of the same kind.
use Rattle.std.specs.Prelude.{◌≡◌, ℕ, Bool, true, not, ◌&&◌, List, [], ◌∷◌, ◌++◌, length, Option, None, Some, if◌then◌else◌}
use Rattle.std.specs.List.{insert}
use Rattle.ucd.specs.declared.line_class.LineClass.{LineClass}
use Rattle.ucd.specs.declared.line_class.LineClass.TheVariants.{AL, HL, ID, NU, SP}
use Rattle.ucd.specs.declared.line_detail.LineDetail.TheVariants.{DottedCircle}
use Rattle.ucd.specs.declared.tables.Tables.{Tables}
use Rattle.breaks.specs.Bases.{Character, character}
use Rattle.breaks.specs.Classes.{is_detail, is_one_of}
use Rattle.breaks.specs.Marks.{marks_of}
use Rattle.breaks.specs.declared.mark.Mark.{Mark}
use Rattle.breaks.specs.declared.mark.Mark.TheVariants.{Never, May}

-- Characters that can be doubled have one of these classes. In 17.0, U+25CC cannot be doubled, because LB28a treats
-- it as a letter of a Brahmic script.
abbrev pub doubled_classes : List LineClass
doubled_classes = SP ∷ NU ∷ AL ∷ HL ∷ ID ∷ []

abbrev pub can_be_doubled : Character → Bool
can_be_doubled c = is_one_of doubled_classes c.class && not (is_detail c.detail DottedCircle)

-- the mark between two doubled characters of this class (LB7, LB25, LB28 or, for ID, LB31)
abbrev pub mark_between : LineClass → Mark
mark_between ID = May
mark_between class = Never

-- the mark between two such characters, or `None` if they cannot be doubled
abbrev pub mark_if_doubled : Character → Option Mark
mark_if_doubled c = if can_be_doubled c then Some (mark_between c.class) else None

-- Two characters are of the same kind if the rules read the same properties of both. Inserting a character d of the
-- same kind directly after a character c adds the mark between the two, and changes no other mark. Inserting d directly
-- before c has the same effect, because the rules cannot distinguish the two texts.
abbrev pub DoublingKeepsMarks : Type 0
DoublingKeepsMarks =
    (tables : Tables) (whole_numbers : Bool) (before after : List ℕ) (c d : ℕ) → can_be_doubled (character tables c) ≡ true
    → character tables d ≡ character tables c
    → marks_of tables whole_numbers (before ++ c ∷ d ∷ after)
    ≡ insert (marks_of tables whole_numbers (before ++ c ∷ after)) (length before) (mark_between (character tables c).class)
