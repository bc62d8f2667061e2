-- The rule that decides each break mark, and the bases around the mark.
use Rattle.std.specs.Prelude.{ℕ, ◌+◌, Bool, true, false, List, [], ◌∷◌, ◌++◌, length, map, slice_get, option_map, unwrap_or, Option, Some, None, if◌then◌else◌}
use Rattle.ucd.specs.declared.line_class.LineClass.{LineClass}
use Rattle.ucd.specs.declared.line_class.LineClass.TheVariants.{ZWJ}
use Rattle.ucd.specs.declared.tables.Tables.{Tables}
use Rattle.ucd.specs.declared.version.Version.{Version}
use Rattle.ucd.specs.declared.version.Version.TheVariants.{V15_0, V17_0}
use Rattle.breaks.specs.Bases.{BaseCharacter, Character, bases_of, character, class_of}
use Rattle.breaks.specs.Classes.{is_same}
use Rattle.breaks.specs.Rules.{Row, Rule, mark_by, rule_of, rules, without_spaces}
use Rattle.breaks.specs.declared.mark.Mark.TheVariants.{Never}
use Rattle.breaks.specs.declared.line_rule.LineRule.{LineRule}
use Rattle.breaks.specs.declared.line_rule.LineRule.TheVariants.{LB3, LB4, LB5, LB6, LB7, LB8, LB8a, LB9, LB11, LB12, LB12a, LB13, LB14, LB15, LB15a, LB15b, LB15c, LB15d, LB16, LB17, LB18, LB19, LB19a, LB20, LB20a, LB21, LB21a, LB21b, LB22, LB23, LB23a, LB24, LB25, LB26, LB27, LB28, LB28a, LB29, LB30, LB30a, LB30b, LB31}
use Rattle.breaks.specs.declared.reason.Reason.{Reason}

-- ---- The names of the rules, one for each row of Rules.antt. Each list's name says which rules it covers.

abbrev pub names_LB3_to_LB12 : List LineRule
names_LB3_to_LB12 = LB3 ∷ LB4 ∷ LB5 ∷ LB5 ∷ LB6 ∷ LB7 ∷ LB8 ∷ LB8a ∷ LB11 ∷ LB11 ∷ LB12 ∷ []

abbrev pub names_LB12a_to_LB14 : List LineRule
names_LB12a_to_LB14 = LB12a ∷ LB13 ∷ LB14 ∷ []

abbrev pub names_LB15 : Version → List LineRule
names_LB15 V15_0 = LB15 ∷ []
names_LB15 V17_0 = LB15a ∷ LB15b ∷ LB15c ∷ LB15d ∷ []

abbrev pub names_LB16_to_LB18 : List LineRule
names_LB16_to_LB18 = LB16 ∷ LB17 ∷ LB18 ∷ []

abbrev pub names_LB19 : Version → List LineRule
names_LB19 V15_0 = LB19 ∷ LB19 ∷ []
names_LB19 V17_0 = LB19 ∷ LB19 ∷ LB19a ∷ LB19a ∷ LB19a ∷ LB19a ∷ []

abbrev pub names_LB20 : List LineRule
names_LB20 = LB20 ∷ LB20 ∷ []

abbrev pub names_LB20a : Version → List LineRule
names_LB20a V15_0 = []
names_LB20a V17_0 = LB20a ∷ []

abbrev pub names_LB21_and_LB21a : List LineRule
names_LB21_and_LB21a = LB21 ∷ LB21 ∷ LB21a ∷ []

abbrev pub names_LB21b_to_LB24 : List LineRule
names_LB21b_to_LB24 = LB21b ∷ LB22 ∷ LB23 ∷ LB23 ∷ LB23a ∷ LB23a ∷ LB24 ∷ LB24 ∷ []

abbrev pub names_before_numbers : Version → List LineRule
names_before_numbers v =
    names_LB3_to_LB12 ++ (names_LB12a_to_LB14 ++ (names_LB15 v ++ (names_LB16_to_LB18 ++ (names_LB19 v ++ (names_LB20
    ++ ((names_LB20a v ++ names_LB21_and_LB21a) ++ names_LB21b_to_LB24))))))

abbrev pub names_of_numbers : Version → Bool → List LineRule
names_of_numbers V15_0 true = LB25 ∷ []
names_of_numbers V15_0 false = LB25 ∷ LB25 ∷ LB25 ∷ []
names_of_numbers V17_0 whole_numbers = LB25 ∷ LB25 ∷ LB25 ∷ LB25 ∷ LB25 ∷ []

abbrev pub names_LB26_to_LB28 : List LineRule
names_LB26_to_LB28 = LB26 ∷ LB26 ∷ LB26 ∷ LB27 ∷ LB27 ∷ LB28 ∷ []

abbrev pub names_LB28a : Version → List LineRule
names_LB28a V15_0 = []
names_LB28a V17_0 = LB28a ∷ LB28a ∷ LB28a ∷ LB28a ∷ []

abbrev pub names_LB29_to_LB30b : List LineRule
names_LB29_to_LB30b = LB29 ∷ LB30 ∷ LB30 ∷ LB30a ∷ LB30b ∷ LB30b ∷ []

-- the names of all rules
unfoldable pub names : Version → Bool → List LineRule
names v whole_numbers =
    names_before_numbers v ++ (names_of_numbers v whole_numbers ++ (names_LB26_to_LB28 ++ (names_LB28a v ++ names_LB29_to_LB30b)))

-- ---- The reasons

-- the name of the first rule that applies, or `None` if none does
abbrev pub first_by : List LineRule → List Rule → List BaseCharacter → List BaseCharacter → Option LineRule
first_by [] rules before after = None
first_by (name ∷ names) [] before after = None
first_by (name ∷ names) (rule ∷ rules) before after = if rule.holds before after then Some name else first_by names rules before after

abbrev pub first_row : List LineRule → List Row → List BaseCharacter → List BaseCharacter → Option LineRule
first_row names rows before after = first_by names (map rule_of rows) before after

-- the number of characters in some bases
abbrev pub chars_in : List BaseCharacter → ℕ
chars_in [] = 0
chars_in (b ∷ bases) = chars_in bases + (length b.attached + 1)

-- the index of the first character of the nearest base, or `None` if there are no bases
abbrev pub start_of : List BaseCharacter → Option ℕ
start_of [] = None
start_of (b ∷ bases) = Some (chars_in bases)

-- the class of the nearest base, or `None` if there are no bases
abbrev pub next_class : List BaseCharacter → Option LineClass
next_class bases = option_map class_of (slice_get bases 0)

-- the reason for the mark after the base b, given the bases before and after b
abbrev pub reason_at : List LineRule → List Rule → BaseCharacter → List BaseCharacter → List BaseCharacter → Reason
reason_at names rules b before after = record {
  rule = unwrap_or (first_by names rules (b ∷ before) after) LB31;
  base = chars_in before;
  behind_spaces = start_of (without_spaces (b ∷ before));
  class_before = class_of b;
  class_after = next_class after;
  mark = mark_by rules (b ∷ before) after;
}

-- the reasons for the marks inside a base that starts at `start`, from the mark after its character c to the
-- mark before its last character
abbrev pub reasons_inside : ℕ → LineClass → Option ℕ → Character → List Character → List Reason
reasons_inside start class behind c [] = []
reasons_inside start class behind c (d ∷ attached) =
    record {
      rule = if is_same c.class ZWJ then LB8a else LB9;
      base = start;
      behind_spaces = behind;
      class_before = class;
      class_after = Some d.class;
      mark = Never;
    } ∷ reasons_inside start class behind d attached

-- the reasons for the marks after the characters of a base, given the bases before and after it
abbrev pub base_reasons : List LineRule → List Rule → BaseCharacter → List BaseCharacter → List BaseCharacter → List Reason
base_reasons names rules b before after =
    reasons_inside (chars_in before) (class_of b) (start_of (without_spaces (b ∷ before))) b.first b.attached
    ++ reason_at names rules b before after ∷ []

-- the reasons for the marks after the characters of some bases, given the bases before them
abbrev pub reasons_after : List LineRule → List Rule → List BaseCharacter → List BaseCharacter → List Reason
reasons_after names rules before [] = []
reasons_after names rules before (b ∷ after) = base_reasons names rules b before after ++ reasons_after names rules (b ∷ before) after

-- the reason for the mark after each character of a paragraph
unfoldable pub reasons_of : Tables → Bool → List ℕ → List Reason
reasons_of t whole_numbers text =
    reasons_after (names t.version whole_numbers) (rules t.version whole_numbers) [] (bases_of (map (character t) text))
