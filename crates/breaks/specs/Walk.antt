-- The state of the walk over the characters with the rules of Unicode 15.0: what the rules need to know about the bases
-- before a position. A state belongs to all bases that the rules cannot distinguish from its example bases
-- (`bases_at`). States are internal to the code: the contract of `marks` refers to Marks.antt instead.
use Rattle.std.specs.Prelude.{◌≡◌, ℕ, ◌*◌, ◌<◌, Bool, true, false, not, ◌||◌, ◌&&◌, ◌==◌, ◌++◌, List, [], ◌∷◌, map, get_or, if◌then◌else◌}
use Rattle.ucd.specs.declared.line_class.LineClass.{LineClass}
use Rattle.ucd.specs.declared.line_class.LineClass.TheVariants as class
use Rattle.ucd.specs.declared.properties.Properties.{Properties}
use Rattle.ucd.specs.declared.version.Version.TheVariants.{V15_0}
use Rattle.breaks.specs.Bases.{BaseCharacter, alone, class_of, end_of}
use Rattle.breaks.specs.Classes.{is_same, is_one_of}
use Rattle.breaks.specs.Numbers.{affix, closing, middle, opening}
use Rattle.breaks.specs.Rules.{Row, rows_before_numbers, rows_of_numbers, rows_after_numbers, never, is, is_spaced, ends_in_odd_run}
use Rattle.breaks.specs.Symbols.{character_by, narrow}
use Rattle.breaks.specs.declared.mark.Mark.{Mark}
use Rattle.breaks.specs.declared.mark.Mark.TheVariants.{Never}
use Rattle.breaks.specs.declared.table.TheConstants.{NEVER, STATE_COUNT, UNLESS, WAITS}
use Rattle.breaks.specs.declared.walk.TheConstants.{MARKS, WHOLE_MARKS}
use Rattle.breaks.specs.declared.walk.Walk15.{Walk15}
use Rattle.breaks.specs.declared.symbol.TheConstants.{SYMBOL_COUNT}

abbrev pub base : LineClass → BaseCharacter
base class = alone (narrow class)

-- the example bases of the states from NU to NumberCP, which both versions have; 15.0 has no later states
abbrev pub last_states : List (List BaseCharacter)
last_states =
    (base class.NU ∷ []) ∷
    (base class.AL ∷ []) ∷
    (base class.HL ∷ []) ∷
    (base class.PR ∷ []) ∷
    (base class.PO ∷ []) ∷
    (base class.ID ∷ []) ∷
    (base class.EB ∷ []) ∷
    (base class.JL ∷ []) ∷
    (base class.JV ∷ []) ∷
    (base class.JT ∷ []) ∷
    (base class.RI ∷ []) ∷
    (base class.EX ∷ []) ∷
    (base class.IS ∷ base class.NU ∷ []) ∷
    (base class.SY ∷ base class.NU ∷ []) ∷
    (base class.CL ∷ base class.NU ∷ []) ∷
    (base class.CP ∷ base class.NU ∷ []) ∷
    []

-- Example bases for each state, in the order of the states. The nearest base comes first.
abbrev pub states : List (List BaseCharacter)
states =
    ((base class.BK ∷ []) ∷
    (base class.CR ∷ []) ∷
    (base class.LF ∷ []) ∷
    (base class.ZW ∷ []) ∷
    (base class.SP ∷ []) ∷
    (base class.SP ∷ base class.ZW ∷ []) ∷
    (base class.SP ∷ base class.OP ∷ []) ∷
    (base class.SP ∷ base class.QU ∷ []) ∷
    (base class.SP ∷ base class.CL ∷ []) ∷
    (base class.SP ∷ base class.B2 ∷ []) ∷
    (base class.WJ ∷ []) ∷
    (base class.GL ∷ []) ∷
    (base class.CL ∷ []) ∷
    (base class.CP ∷ []) ∷
    (base class.IS ∷ []) ∷
    (base class.SY ∷ []) ∷
    (base class.OP ∷ []) ∷
    (base class.QU ∷ []) ∷
    (base class.B2 ∷ []) ∷
    (base class.CB ∷ []) ∷
    (base class.BA ∷ []) ∷
    (base class.HY ∷ []) ∷
    (base class.BA ∷ base class.HL ∷ []) ∷
    (base class.HY ∷ base class.HL ∷ []) ∷
    (base class.BB ∷ []) ∷
    [])
    ++ last_states

abbrev pub bases_at : ℕ → List BaseCharacter
bases_at number = get_or states number []

-- the outcome once LB8a and LB30b have been applied, given whether the last character is a ZWJ, and whether
-- the last base is a future pictograph
abbrev pub decided_at : ℕ → Bool → Bool → ℕ
decided_at outcome is_joined is_pictograph = if is_joined || ((outcome == UNLESS) && is_pictograph) then NEVER else outcome

-- whether a character is neither a ZWJ nor a future pictograph, so that LB8a and LB30b for pictographs do not apply to
-- the position after it
abbrev pub is_ordinary : Properties → Bool
is_ordinary p = not (is_same (character_by V15_0 p).class class.ZWJ) && not p.is_future_pictograph

-- for this row of the walk over ordinary characters, the corresponding state of the walk over any characters
abbrev pub full_walk : ℕ → Walk15
full_walk row = record { row = row; is_joined = false; is_pictograph = false }

-- the mark of each outcome if the base after the next one is not NU
abbrev pub marks_alone : Bool → List Mark
marks_alone true = WHOLE_MARKS
marks_alone false = MARKS

abbrev pub mark_of : Bool → ℕ → Bool → Mark
mark_of whole_numbers decided before_digit =
    if whole_numbers && ((decided == WAITS) && before_digit) then Never else get_or (marks_alone whole_numbers) decided Never

-- the mark of an outcome, given the bases after the next one
abbrev pub mark_given : Bool → ℕ → List BaseCharacter → Mark
mark_given whole_numbers decided rest = mark_of whole_numbers decided (is (class.NU ∷ []) rest)

-- LB9: the classes to which no CM or ZWJ is attached
abbrev pub unattached : List LineClass
unattached = class.BK ∷ class.CR ∷ class.LF ∷ class.NL ∷ class.SP ∷ class.ZW ∷ []

-- LB25 with whole numbers: for each position inside the expression, the conditions on the bases before and
-- after that position
abbrev pub ends_in_digits : List BaseCharacter → Bool
ends_in_digits [] = false
ends_in_digits (b ∷ bases) = is_same (class_of b) class.NU || (is_one_of middle (class_of b) && ends_in_digits bases)

abbrev pub ends_in_closed_digits : List BaseCharacter → Bool
ends_in_closed_digits [] = false
ends_in_closed_digits (b ∷ bases) = is_one_of closing (class_of b) && ends_in_digits bases

abbrev pub begins_unaffixed : List BaseCharacter → Bool
begins_unaffixed [] = false
begins_unaffixed (b ∷ bases) = is_same (class_of b) class.NU || (is_one_of opening (class_of b) && is (class.NU ∷ []) bases)

abbrev pub goes_on_after_digits : List LineClass
goes_on_after_digits = class.NU ∷ class.SY ∷ class.IS ∷ class.CL ∷ class.CP ∷ class.PR ∷ class.PO ∷ []

abbrev pub number_rows : Bool → List Row
number_rows true =
    never (is affix) begins_unaffixed ∷
    never (is opening) (is (class.NU ∷ [])) ∷
    never ends_in_digits (is goes_on_after_digits) ∷
    never ends_in_closed_digits (is affix) ∷
    []
number_rows false = rows_of_numbers V15_0

-- all rules as rows, with or without whole numbers
unfoldable pub rows : Bool → List Row
rows whole_numbers = rows_before_numbers V15_0 ++ (number_rows whole_numbers ++ rows_after_numbers V15_0)

-- the bases, with the nearest one changed so that LB8a and the part of LB30b on pictographs do not apply to it
abbrev pub plain : List BaseCharacter → List BaseCharacter
plain [] = []
plain (b ∷ bases) = record { first = record b.first { is_future_pictograph = false }; attached = narrow class.CM ∷ [] } ∷ bases

-- the result of each rule's condition on the bases before a position; the conditions of LB8a, and of LB30b for
-- pictographs, count as false
abbrev pub answers : Bool → List BaseCharacter → List Bool
answers whole_numbers bases = map (λ row. row.before (plain bases)) (rows whole_numbers)

-- The results of further conditions, on which the rules may depend once one more base has been read. They are
-- about hyphens after HL, and about runs of spaces, RI and numbers.
abbrev pub carried : List BaseCharacter → List Bool
carried bases =
    is (class.HL ∷ []) bases
    ∷ is_spaced (class.ZW ∷ []) bases ∷ is_spaced (class.OP ∷ []) bases ∷ is_spaced (class.QU ∷ []) bases
    ∷ is_spaced (class.CL ∷ class.CP ∷ []) bases ∷ is_spaced (class.B2 ∷ []) bases
    ∷ ends_in_odd_run bases ∷ ends_in_digits bases ∷ []

-- The state `walk` belongs to the bases `last` and `others`, the nearest first. A character may still join
-- `last`. The row of `walk` belongs to a state whose example bases have the same `answers` and `carried`. The
-- two bits of `walk` describe `last`.
pub record Stands (whole_numbers : Bool) (walk : Walk15) (last : BaseCharacter) (others : List BaseCharacter) : Type 0 where
  pub state : ℕ
  pub below : state < STATE_COUNT
  pub row : walk.row ≡ state * SYMBOL_COUNT
  pub answered : answers whole_numbers (last ∷ others) ≡ answers whole_numbers (bases_at state)
  pub carries : carried (last ∷ others) ≡ carried (bases_at state)
  pub attaches : is_one_of unattached (end_of last).class ≡ is unattached (bases_at state)
  pub is_joined : walk.is_joined ≡ is_same (end_of last).class class.ZWJ
  pub is_pictograph : walk.is_pictograph ≡ last.first.is_future_pictograph
