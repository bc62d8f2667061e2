-- The results of the functions that report which rules determine levels and break marks.
use Rattle.std.specs.Prelude.{◌≡◌, ℕ, ◌-◌, ◌^◌, ◌<◌, ◌≤◌, Bool, List, [], ◌∷◌, length, map, min, replicate, All, Option, Some, None}
use Rattle.std.specs.Char.{IsScalar}
use Rattle.ucd.specs.declared.bidi_class.BidiClass.{BidiClass}
use Rattle.ucd.specs.declared.line_class.LineClass.{LineClass}
use Rattle.ucd.specs.declared.tables.Tables.{Tables}
use Rattle.bidi.specs.LevelReasons.{level_reasons_of}
use Rattle.bidi.specs.declared.base.Base.{Base}
use Rattle.bidi.specs.declared.bracket_steps.BracketCase.{BracketCase}
use Rattle.bidi.specs.declared.bracket_steps.BracketCase.TheVariants.{B, C1, C2, D, NotOther, NoMatch, PastLimit}
use Rattle.bidi.specs.declared.level_reason.LevelReason.{LevelReason}
use Rattle.bidi.specs.declared.level_reason.SequenceReason.{SequenceReason}
use Rattle.bidi.specs.declared.neutral_steps.NeutralRule.{NeutralRule}
use Rattle.bidi.specs.declared.neutral_steps.NeutralRule.TheVariants.{N1, N2}
use Rattle.breaks.specs.Reasons.{reasons_of}
use Rattle.breaks.specs.declared.line_rule.LineRule.{LineRule}
use Rattle.breaks.specs.declared.line_rule.LineRule.TheVariants.{LB3, LB4, LB5, LB6, LB7, LB8, LB8a, LB9, LB11, LB12, LB12a, LB13, LB14, LB15, LB15a, LB15b, LB15c, LB15d, LB16, LB17, LB18, LB19, LB19a, LB20, LB20a, LB21, LB21a, LB21b, LB22, LB23, LB23a, LB24, LB25, LB26, LB27, LB28, LB28a, LB29, LB30, LB30a, LB30b, LB31}
use Rattle.breaks.specs.declared.reason.Reason.{Reason}
use Rattle.hordguli_c.specs.Arrays.{put}
use Rattle.hordguli_c.specs.Calls.{Given}
use Rattle.hordguli_c.specs.Levels.{bidi_number, line_number, mark_number, OfCharacters}
use Rattle.hordguli_c.specs.declared.reason_calls.BreakReasonOut.{BreakReasonOut}
use Rattle.hordguli_c.specs.declared.reason_calls.ReasonOut.{ReasonOut}
use Rattle.hordguli_c.specs.declared.status.Status.{Status}
use Rattle.hordguli_c.specs.declared.status.Status.TheVariants as is

-- The number that is stored for a missing position. Paragraphs of this length or longer are refused.
abbrev pub no_position : ℕ
no_position = 2 ^ 32 - 1

abbrev pub position_number : Option ℕ → ℕ
position_number (Some k) = min k no_position
position_number None = no_position

-- the number in the name of a rule, such as 8 for LB8a
unfoldable pub rule_number : LineRule → ℕ
rule_number LB3 = 3
rule_number LB4 = 4
rule_number LB5 = 5
rule_number LB6 = 6
rule_number LB7 = 7
rule_number LB8 = 8
rule_number LB8a = 8
rule_number LB9 = 9
rule_number LB11 = 11
rule_number LB12 = 12
rule_number LB12a = 12
rule_number LB13 = 13
rule_number LB14 = 14
rule_number LB15 = 15
rule_number LB15a = 15
rule_number LB15b = 15
rule_number LB15c = 15
rule_number LB15d = 15
rule_number LB16 = 16
rule_number LB17 = 17
rule_number LB18 = 18
rule_number LB19 = 19
rule_number LB19a = 19
rule_number LB20 = 20
rule_number LB20a = 20
rule_number LB21 = 21
rule_number LB21a = 21
rule_number LB21b = 21
rule_number LB22 = 22
rule_number LB23 = 23
rule_number LB23a = 23
rule_number LB24 = 24
rule_number LB25 = 25
rule_number LB26 = 26
rule_number LB27 = 27
rule_number LB28 = 28
rule_number LB28a = 28
rule_number LB29 = 29
rule_number LB30 = 30
rule_number LB30a = 30
rule_number LB30b = 30
rule_number LB31 = 31

-- the ASCII letter at the end of a rule's name, such as 97 for LB8a, or 0 if there is none
unfoldable pub rule_letter : LineRule → ℕ
rule_letter LB8a = 97
rule_letter LB12a = 97
rule_letter LB15a = 97
rule_letter LB15b = 98
rule_letter LB15c = 99
rule_letter LB15d = 100
rule_letter LB19a = 97
rule_letter LB20a = 97
rule_letter LB21a = 97
rule_letter LB21b = 98
rule_letter LB23a = 97
rule_letter LB28a = 97
rule_letter LB30a = 97
rule_letter LB30b = 98
rule_letter rule = 0

-- the number of a line breaking class, or 255 if there is none
abbrev pub class_number : Option LineClass → ℕ
class_number (Some class) = line_number class
class_number None = 255

abbrev pub break_reason_out : Reason → BreakReasonOut
break_reason_out reason = record {
  base = position_number (Some reason.base);
  behind_spaces = position_number reason.behind_spaces;
  rule = rule_number reason.rule;
  letter = rule_letter reason.rule;
  class_before = line_number reason.class_before;
  class_after = class_number reason.class_after;
  mark = mark_number reason.mark;
}

-- ---- levels (UAX #9)

-- the number of a bidi class, or 255 if there is none
abbrev pub direction_number : Option BidiClass → ℕ
direction_number (Some class) = bidi_number class
direction_number None = 255

-- the number of a case of N0, or 0 if the character is not a bracket
abbrev pub case_number : Option BracketCase → ℕ
case_number None = 0
case_number (Some B) = 1
case_number (Some C1) = 2
case_number (Some C2) = 3
case_number (Some D) = 4
case_number (Some NotOther) = 5
case_number (Some NoMatch) = 6
case_number (Some PastLimit) = 7

-- 1 for N1, 2 for N2, or 0 if the type is not neutral
abbrev pub neutral_number : Option NeutralRule → ℕ
neutral_number None = 0
neutral_number (Some N1) = 1
neutral_number (Some N2) = 2

-- the class of a character that X9 keeps, and its type after each of X8, W1 to W7, N0, and N2
abbrev pub classes_after : LevelReason → SequenceReason → List ℕ
classes_after reason found =
    bidi_number reason.class ∷ bidi_number reason.explicit.class
    ∷ bidi_number found.step.w1 ∷ bidi_number found.step.w2 ∷ bidi_number found.step.w3 ∷ bidi_number found.step.w4
    ∷ bidi_number found.step.w5 ∷ bidi_number found.step.w6 ∷ bidi_number found.step.w7
    ∷ bidi_number found.step.n0 ∷ bidi_number found.step.neutral.class ∷ []

-- the reason for the level of a character that X9 keeps
abbrev pub kept_out : LevelReason → SequenceReason → ReasonOut
kept_out reason found = record {
  opener = position_number reason.explicit.opener;
  matching = position_number reason.matching;
  sequence = position_number (Some found.sequence);
  partner = position_number found.step.bracket.partner;
  inside = position_number found.step.bracket.inside;
  left = position_number found.step.neutral.left;
  right = position_number found.step.neutral.right;
  class_after = classes_after reason found;
  override_class = direction_number reason.explicit.overriding;
  embedding_level = reason.explicit.level;
  level = reason.level;
  sos = bidi_number found.sos;
  eos = bidi_number found.eos;
  bracket_case = case_number found.step.bracket.case;
  neutral = neutral_number found.step.neutral.rule;
}

-- the reason for the level of a character that X9 removes; the type after each rule is 255 (no class)
abbrev pub removed_out : LevelReason → ReasonOut
removed_out reason = record {
  opener = position_number reason.explicit.opener;
  matching = position_number reason.matching;
  sequence = position_number None;
  partner = position_number None;
  inside = position_number None;
  left = position_number reason.level_from;
  right = position_number None;
  class_after = bidi_number reason.class ∷ replicate 10 255;
  override_class = direction_number reason.explicit.overriding;
  embedding_level = reason.explicit.level;
  level = reason.level;
  sos = 255;
  eos = 255;
  bracket_case = 0;
  neutral = 0;
}

abbrev pub reason_with : LevelReason → Option SequenceReason → ReasonOut
reason_with reason (Some found) = kept_out reason found
reason_with reason None = removed_out reason

abbrev pub reason_out : LevelReason → ReasonOut
reason_out reason = reason_with reason reason.resolved

-- ---- levels and break marks

-- one record for each character is stored, if the records fit in the array and all positions fit in 32 bits
abbrev pub PutsRecords : {R : Type 0} → (List ℕ → List R) → List ℕ → Status → List R → List R → Type 0
PutsRecords records characters status old new =
    Given (length characters ≤ length old) is.NoRoom status (new ≡ old)
    (Given (length characters < no_position) is.OutOfRange status (new ≡ old)
    (OfCharacters characters status (new ≡ old) ((status ≡ is.Ok) × (new ≡ put (records characters) old))))

-- how the rules determine the level of each character of a paragraph (UAX #9)
unfoldable pub level_reasons : Tables → Base → List ℕ → List ReasonOut
level_reasons tables base text = map reason_out (level_reasons_of tables text base)

abbrev pub PutsReasons : Base → List ℕ → Status → Tables → List ReasonOut → List ReasonOut → Type 0
PutsReasons base characters status tables = PutsRecords (level_reasons tables base) characters status

-- which rule determines each break mark of a paragraph (UAX #14)
unfoldable pub break_reasons : Tables → Bool → List ℕ → List BreakReasonOut
break_reasons tables whole_numbers text = map break_reason_out (reasons_of tables whole_numbers text)

abbrev pub PutsBreakReasons : Bool → List ℕ → Status → Tables → List BreakReasonOut → List BreakReasonOut → Type 0
PutsBreakReasons whole_numbers characters status tables = PutsRecords (break_reasons tables whole_numbers) characters status
