-- The reply to `why`: how the algorithms arrive at the level and the break mark of a character.
use Rattle.std.specs.Prelude.{ℕ, ◌+◌, ◌-◌, ◌^◌, min, List, ◌++◌, codes, Option, Some, None}
use Rattle.std.specs.Fmt.{decimal}
use Rattle.ucd.specs.BidiClasses as bidi
use Rattle.ucd.specs.LineClasses as line
use Rattle.ucd.specs.declared.bidi_class.BidiClass.{BidiClass}
use Rattle.ucd.specs.declared.line_class.LineClass.{LineClass}
use Rattle.bidi.specs.declared.bracket_steps.BracketCase.{BracketCase}
use Rattle.bidi.specs.declared.bracket_steps.BracketCase.TheVariants.{B, C1, C2, D, NotOther, NoMatch, PastLimit}
use Rattle.bidi.specs.declared.level_reason.LevelReason.{LevelReason}
use Rattle.bidi.specs.declared.level_reason.SequenceReason.{SequenceReason}
use Rattle.bidi.specs.declared.neutral_steps.NeutralRule.{NeutralRule}
use Rattle.bidi.specs.declared.neutral_steps.NeutralRule.TheVariants.{N1, N2}
use Rattle.breaks.specs.LineRules as rule
use Rattle.breaks.specs.declared.mark.Mark.{Mark}
use Rattle.breaks.specs.declared.mark.Mark.TheVariants.{Never, May, Must}
use Rattle.breaks.specs.declared.reason.Reason.{Reason}
use Rattle.session.specs.declared.reasons.CharReasons.{CharReasons}

-- a name and a value, with a space before each
abbrev pub pair : List ℕ → List ℕ → List ℕ
pair name value = codes " " ++ name ++ codes " " ++ value

-- ---- values

-- A position in the text, given the start of a paragraph and a position in the paragraph, or `none`. The sum
-- saturates at 2^64−1, which no text reaches.
abbrev pub position_text : ℕ → Option ℕ → List ℕ
position_text start (Some k) = decimal (min (start + k) (2 ^ 64 - 1))
position_text start None = codes "none"

-- the name of a bidi class, and the name of a line breaking class, or `none` if there is no class
abbrev pub bidi_text : Option BidiClass → List ℕ
bidi_text (Some class) = bidi.name_of class
bidi_text None = codes "none"

abbrev pub line_text : Option LineClass → List ℕ
line_text (Some class) = line.name_of class
line_text None = codes "none"

-- which case of N0 applies to a bracket, or why it is unpaired; `none` if the character is not a bracket
abbrev pub case_text : Option BracketCase → List ℕ
case_text (Some B) = codes "B"
case_text (Some C1) = codes "C1"
case_text (Some C2) = codes "C2"
case_text (Some D) = codes "D"
case_text (Some NotOther) = codes "not_other"
case_text (Some NoMatch) = codes "no_match"
case_text (Some PastLimit) = codes "past_limit"
case_text None = codes "none"

-- the rule that decides the type of a neutral, or `none` if the type is not neutral
abbrev pub neutral_text : Option NeutralRule → List ℕ
neutral_text (Some N1) = codes "N1"
neutral_text (Some N2) = codes "N2"
neutral_text None = codes "none"

abbrev pub mark_text : Mark → List ℕ
mark_text Never = codes "never"
mark_text May = codes "may"
mark_text Must = codes "must"

-- ---- the level of a character that X9 keeps; `start` is where the paragraph starts

-- the class of the character, and its type after each of X8, W1 to W7, N0, and N2
abbrev pub weak_text : SequenceReason → List ℕ
weak_text found =
    pair (codes "W1") (bidi.name_of found.step.w1) ++ pair (codes "W2") (bidi.name_of found.step.w2)
    ++ pair (codes "W3") (bidi.name_of found.step.w3) ++ pair (codes "W4") (bidi.name_of found.step.w4)
    ++ pair (codes "W5") (bidi.name_of found.step.w5) ++ pair (codes "W6") (bidi.name_of found.step.w6)
    ++ pair (codes "W7") (bidi.name_of found.step.w7)

abbrev pub types_text : LevelReason → SequenceReason → List ℕ
types_text reason found =
    pair (codes "class") (bidi.name_of reason.class) ++ pair (codes "X") (bidi.name_of reason.explicit.class)
    ++ weak_text found
    ++ pair (codes "N0") (bidi.name_of found.step.n0) ++ pair (codes "N2") (bidi.name_of found.step.neutral.class)

abbrev pub positions_text : ℕ → LevelReason → SequenceReason → List ℕ
positions_text start reason found =
    pair (codes "opener") (position_text start reason.explicit.opener)
    ++ pair (codes "matching") (position_text start reason.matching)
    ++ pair (codes "sequence") (position_text start (Some found.sequence))
    ++ pair (codes "partner") (position_text start found.step.bracket.partner)
    ++ pair (codes "inside") (position_text start found.step.bracket.inside)
    ++ pair (codes "left") (position_text start found.step.neutral.left)
    ++ pair (codes "right") (position_text start found.step.neutral.right)

abbrev pub explicit_text : LevelReason → List ℕ
explicit_text reason =
    pair (codes "override_class") (bidi_text reason.explicit.overriding)
    ++ pair (codes "embedding_level") (decimal reason.explicit.level)
    ++ pair (codes "level") (decimal reason.level)

abbrev pub resolved_text : SequenceReason → List ℕ
resolved_text found =
    pair (codes "sos") (bidi.name_of found.sos) ++ pair (codes "eos") (bidi.name_of found.eos)
    ++ pair (codes "bracket_case") (case_text found.step.bracket.case)
    ++ pair (codes "neutral") (neutral_text found.step.neutral.rule)

abbrev pub kept_text : ℕ → LevelReason → SequenceReason → List ℕ
kept_text start reason found =
    types_text reason found ++ positions_text start reason found ++ explicit_text reason ++ resolved_text found

-- ---- the level of a character that X9 removes; the type after each rule is `none`

abbrev pub removed_text : ℕ → LevelReason → List ℕ
removed_text start reason =
    pair (codes "class") (bidi.name_of reason.class)
    ++ codes " X none W1 none W2 none W3 none W4 none W5 none W6 none W7 none N0 none N2 none"
    ++ pair (codes "opener") (position_text start reason.explicit.opener)
    ++ pair (codes "matching") (position_text start reason.matching)
    ++ codes " sequence none partner none inside none"
    ++ pair (codes "left") (position_text start reason.level_from)
    ++ codes " right none" ++ explicit_text reason
    ++ codes " sos none eos none bracket_case none neutral none"

abbrev pub level_text : ℕ → LevelReason → Option SequenceReason → List ℕ
level_text start reason (Some found) = kept_text start reason found
level_text start reason None = removed_text start reason

-- ---- the break mark after a character

abbrev pub break_text : ℕ → Reason → List ℕ
break_text start reason =
    pair (codes "rule") (rule.name_of reason.rule)
    ++ pair (codes "base") (position_text start (Some reason.base))
    ++ pair (codes "behind_spaces") (position_text start reason.behind_spaces)
    ++ pair (codes "class_before") (line_text (Some reason.class_before))
    ++ pair (codes "class_after") (line_text reason.class_after)
    ++ pair (codes "mark") (mark_text reason.mark)

-- ---- both

abbrev pub reasons_text : CharReasons → List ℕ
reasons_text reasons =
    codes "=" ++ level_text reasons.paragraph_start reasons.level reasons.level.resolved
    ++ break_text reasons.paragraph_start reasons.mark ++ codes "\n"
