-- The rules for break marks (UAX #14, LB3 to LB31) of Unicode 15.0 and 17.0, in the order of the annex. LB1, LB9
-- and LB10 turn the characters into bases (Bases.antt). LB2 is about the position before a text, which has no
-- mark. LB31 applies if no rule of the table does. For whole numbers in 15.0, a separate rule replaces LB25
-- (Numbers.antt).
use Rattle.std.specs.Prelude.{◌%◌, ◌==◌, Bool, true, false, not, ◌&&◌, ◌||◌, List, [], ◌∷◌, ◌++◌, map, if◌then◌else◌}
use Rattle.std.specs.List.{prefix_len}
use Rattle.ucd.specs.declared.line_class.LineClass.{LineClass}
use Rattle.ucd.specs.declared.line_class.LineClass.TheVariants.{AK, AL, AP, AS, B2, BA, BB, BK, CB, CL, CP, CR, EB, EM, EX, GL, H2, H3, HH, HL, HY, ID, IN, IS, JL, JT, JV, LF, NL, NS, NU, OP, PO, PR, QU, RI, SP, SY, VF, VI, WJ, ZW, ZWJ}
use Rattle.ucd.specs.declared.line_detail.LineDetail.{LineDetail}
use Rattle.ucd.specs.declared.line_detail.LineDetail.TheVariants.{DottedCircle, Final, Initial}
use Rattle.ucd.specs.declared.version.Version.{Version}
use Rattle.ucd.specs.declared.version.Version.TheVariants.{V15_0, V17_0}
use Rattle.breaks.specs.Bases.{BaseCharacter, class_of, end_of, is_east_asian}
use Rattle.breaks.specs.Classes.{is_detail, is_same, is_one_of}
use Rattle.breaks.specs.Numbers.{is_in_number}
use Rattle.breaks.specs.declared.mark.Mark.{Mark}
use Rattle.breaks.specs.declared.mark.Mark.TheVariants.{Never, May, Must}

-- A rule: a condition on the bases before a position, nearest first, and on the bases after that position;
-- and the mark if the condition holds.
pub record Rule : Type 0 where
  pub holds : List BaseCharacter → List BaseCharacter → Bool
  pub mark : Mark

-- the form of most rules: a condition on the bases before a position, and another on the bases after it
pub record Row : Type 0 where
  pub before : List BaseCharacter → Bool
  pub after : List BaseCharacter → Bool
  pub mark : Mark

abbrev pub rule_of : Row → Rule
rule_of row = record { holds = λ before after. row.before before && row.after after; mark = row.mark }

-- a row for `×`
abbrev pub never : (List BaseCharacter → Bool) → (List BaseCharacter → Bool) → Row
never before after = record { before = before; after = after; mark = Never }

-- a row for `÷`
abbrev may : (List BaseCharacter → Bool) → (List BaseCharacter → Bool) → Row
may before after = record { before = before; after = after; mark = May }

-- a row for `!`
abbrev must : (List BaseCharacter → Bool) → (List BaseCharacter → Bool) → Row
must before after = record { before = before; after = after; mark = Must }

-- the condition that is always true
abbrev pub any : List BaseCharacter → Bool
any bases = true

-- the condition that is true if there are no bases
abbrev pub none : List BaseCharacter → Bool
none [] = true
none (b ∷ bases) = false

-- whether the nearest base has one of the classes
abbrev pub is : List LineClass → List BaseCharacter → Bool
is classes [] = false
is classes (b ∷ bases) = is_one_of classes (class_of b)

-- whether the nearest base has one of the classes and is not wide
abbrev pub is_narrow : List LineClass → List BaseCharacter → Bool
is_narrow classes [] = false
is_narrow classes (b ∷ bases) = is_one_of classes (class_of b) && not b.first.is_wide

-- whether there is a nearest base, and it has none of the classes
abbrev pub is_not : List LineClass → List BaseCharacter → Bool
is_not classes [] = false
is_not classes (b ∷ bases) = not (is_one_of classes (class_of b))

-- whether the nearest base has one of `classes`, and the base before it has one of `firsts`
abbrev pub is_pair : List LineClass → List LineClass → List BaseCharacter → Bool
is_pair firsts classes (b ∷ a ∷ bases) = is_one_of firsts (class_of a) && is_one_of classes (class_of b)
is_pair firsts classes bases = false

-- the bases without the spaces that directly adjoin the position
abbrev pub without_spaces : List BaseCharacter → List BaseCharacter
without_spaces [] = []
without_spaces (b ∷ bases) = if is_same (class_of b) SP then without_spaces bases else b ∷ bases

-- whether the nearest base that is not a space has one of the classes; UAX #14 writes this condition as the
-- class followed by `SP*`
abbrev pub is_spaced : List LineClass → List BaseCharacter → Bool
is_spaced classes bases = is classes (without_spaces bases)

-- whether the bases without the spaces that adjoin the position meet the condition; UAX #14 writes these
-- spaces as `SP*`
abbrev pub spaced : (List BaseCharacter → Bool) → List BaseCharacter → Bool
spaced condition bases = condition (without_spaces bases)

-- whether there are bases, they meet `first`, and the bases beyond the nearest one meet `others`
abbrev pub followed : (List BaseCharacter → Bool) → (List BaseCharacter → Bool) → List BaseCharacter → Bool
followed first others [] = false
followed first others (b ∷ bases) = first (b ∷ bases) && others bases

-- whether the condition holds or there are no bases; for rules that list `sot` or `eot` as well as classes
abbrev pub or_edge : (List BaseCharacter → Bool) → List BaseCharacter → Bool
or_edge condition [] = true
or_edge condition (b ∷ bases) = condition (b ∷ bases)

-- whether there is a nearest base, and it is not wide (East Asian width F, W or H)
abbrev pub is_not_east_asian : List BaseCharacter → Bool
is_not_east_asian [] = false
is_not_east_asian (b ∷ bases) = not (is_east_asian b)

-- whether the nearest base is QU with this detail
abbrev pub is_quote : LineDetail → List BaseCharacter → Bool
is_quote detail [] = false
is_quote detail (b ∷ bases) = is_same (class_of b) QU && is_detail b.first.detail detail

-- whether the nearest base is QU with a detail other than this one
abbrev pub is_quote_but : LineDetail → List BaseCharacter → Bool
is_quote_but detail [] = false
is_quote_but detail (b ∷ bases) = is_same (class_of b) QU && not (is_detail b.first.detail detail)

-- whether a base is U+25CC with class AL
abbrev pub is_dotted_circle : BaseCharacter → Bool
is_dotted_circle b = is_same b.first.class AL && is_detail b.first.detail DottedCircle

-- whether the nearest base is a letter of a Brahmic script in the sense of LB28a: U+25CC, or a base of one of
-- the classes (AK and, in most conditions, AS)
abbrev pub is_aksara : List LineClass → List BaseCharacter → Bool
is_aksara classes [] = false
is_aksara classes (b ∷ bases) = is_one_of classes (class_of b) || is_dotted_circle b

-- whether the bases before a position end in a number, `NU ( SY | IS )*`
abbrev pub ends_in_number : List BaseCharacter → Bool
ends_in_number [] = false
ends_in_number (b ∷ bases) = is_same (class_of b) NU || (is_one_of (IS ∷ SY ∷ []) (class_of b) && ends_in_number bases)

-- whether the character directly before the position is a ZWJ
abbrev pub ends_in_zwj : List BaseCharacter → Bool
ends_in_zwj [] = false
ends_in_zwj (b ∷ bases) = is_same (end_of b).class ZWJ

-- whether the run of RI before the position has an odd length
abbrev pub ends_in_odd_run : List BaseCharacter → Bool
ends_in_odd_run bases = prefix_len (λ b. is_same (class_of b) RI) bases % 2 == 1

-- whether the nearest base is Extended_Pictographic and unassigned
abbrev pub is_future_pictograph : List BaseCharacter → Bool
is_future_pictograph [] = false
is_future_pictograph (b ∷ bases) = b.first.is_future_pictograph

-- In each list, the classes are in the order of `LineClass`.
abbrev pub letters : List LineClass
letters = AL ∷ HL ∷ []

abbrev pub syllables : List LineClass
syllables = H2 ∷ H3 ∷ JL ∷ JT ∷ JV ∷ []

-- ---- LB3 to LB24. Each list is named after its rules, and depends on the version if the rows differ.

abbrev pub LB3_to_LB12 : List Row
LB3_to_LB12 =
    -- LB3
    must any none ∷
    -- LB4
    must (is (BK ∷ [])) any ∷
    -- LB5
    never (is (CR ∷ [])) (is (LF ∷ [])) ∷
    must (is (CR ∷ LF ∷ NL ∷ [])) any ∷
    -- LB6
    never any (is (BK ∷ CR ∷ LF ∷ NL ∷ [])) ∷
    -- LB7
    never any (is (SP ∷ ZW ∷ [])) ∷
    -- LB8
    may (is_spaced (ZW ∷ [])) any ∷
    -- LB8a
    never ends_in_zwj any ∷
    -- LB11
    never any (is (WJ ∷ [])) ∷
    never (is (WJ ∷ [])) any ∷
    -- LB12
    never (is (GL ∷ [])) any ∷
    []

abbrev pub LB12a : Version → List Row
LB12a V15_0 = never (is_not (SP ∷ BA ∷ HY ∷ [])) (is (GL ∷ [])) ∷ []
LB12a V17_0 = never (is_not (SP ∷ BA ∷ HY ∷ HH ∷ [])) (is (GL ∷ [])) ∷ []

abbrev pub LB13 : Version → List Row
LB13 V15_0 = never any (is (CL ∷ CP ∷ EX ∷ IS ∷ SY ∷ [])) ∷ []
LB13 V17_0 = never any (is (CL ∷ CP ∷ EX ∷ SY ∷ [])) ∷ []

abbrev pub LB14 : List Row
LB14 = never (is_spaced (OP ∷ [])) any ∷ []

abbrev pub before_initial : List LineClass
before_initial = BK ∷ CR ∷ GL ∷ LF ∷ NL ∷ SP ∷ ZW ∷ OP ∷ QU ∷ []

abbrev pub after_final : List LineClass
after_final = BK ∷ CR ∷ GL ∷ LF ∷ NL ∷ SP ∷ WJ ∷ ZW ∷ CL ∷ CP ∷ EX ∷ QU ∷ IS ∷ SY ∷ []

abbrev pub begins_quotation : List BaseCharacter → Bool
begins_quotation = followed (is_quote Initial) (or_edge (is before_initial))

abbrev pub LB15 : Version → List Row
LB15 V15_0 = never (is_spaced (QU ∷ [])) (is (OP ∷ [])) ∷ []
LB15 V17_0 =
    -- LB15a
    never (spaced begins_quotation) any ∷
    -- LB15b
    never any (followed (is_quote Final) (or_edge (is after_final))) ∷
    -- LB15c
    may (is (SP ∷ [])) (followed (is (IS ∷ [])) (is (NU ∷ []))) ∷
    -- LB15d
    never any (is (IS ∷ [])) ∷
    []

abbrev pub LB16_to_LB18 : List Row
LB16_to_LB18 =
    -- LB16
    never (is_spaced (CL ∷ CP ∷ [])) (is (NS ∷ [])) ∷
    -- LB17
    never (is_spaced (B2 ∷ [])) (is (B2 ∷ [])) ∷
    -- LB18
    may (is (SP ∷ [])) any ∷
    []

abbrev pub LB19 : Version → List Row
LB19 V15_0 =
    never any (is (QU ∷ [])) ∷
    never (is (QU ∷ [])) any ∷
    []
LB19 V17_0 =
    never any (is_quote_but Initial) ∷
    never (is_quote_but Final) any ∷
    -- LB19a
    never is_not_east_asian (is (QU ∷ [])) ∷
    never any (followed (is (QU ∷ [])) (or_edge is_not_east_asian)) ∷
    never (is (QU ∷ [])) is_not_east_asian ∷
    never (followed (is (QU ∷ [])) (or_edge is_not_east_asian)) any ∷
    []

abbrev pub LB20 : List Row
LB20 =
    may any (is (CB ∷ [])) ∷
    may (is (CB ∷ [])) any ∷
    []

abbrev pub before_word : List LineClass
before_word = BK ∷ CR ∷ GL ∷ LF ∷ NL ∷ SP ∷ ZW ∷ CB ∷ []

abbrev pub LB20a : Version → List Row
LB20a V15_0 = []
LB20a V17_0 = never (followed (is (HY ∷ HH ∷ [])) (or_edge (is before_word))) (is letters) ∷ []

abbrev pub LB21 : Version → List Row
LB21 V15_0 = never any (is (BA ∷ HY ∷ NS ∷ [])) ∷ []
LB21 V17_0 = never any (is (BA ∷ HY ∷ NS ∷ HH ∷ [])) ∷ []

abbrev pub LB21a : Version → List Row
LB21a V15_0 =
    never (is (BB ∷ [])) any ∷
    never (is_pair (HL ∷ []) (BA ∷ HY ∷ [])) any ∷
    []
LB21a V17_0 =
    never (is (BB ∷ [])) any ∷
    never (is_pair (HL ∷ []) (HY ∷ HH ∷ [])) (is_not (HL ∷ [])) ∷
    []

abbrev pub LB21b_to_LB24 : List Row
LB21b_to_LB24 =
    -- LB21b
    never (is (SY ∷ [])) (is (HL ∷ [])) ∷
    -- LB22
    never any (is (IN ∷ [])) ∷
    -- LB23
    never (is letters) (is (NU ∷ [])) ∷
    never (is (NU ∷ [])) (is letters) ∷
    -- LB23a
    never (is (PR ∷ [])) (is (EB ∷ EM ∷ ID ∷ [])) ∷
    never (is (EB ∷ EM ∷ ID ∷ [])) (is (PO ∷ [])) ∷
    -- LB24
    never (is (PO ∷ PR ∷ [])) (is letters) ∷
    never (is letters) (is (PO ∷ PR ∷ [])) ∷
    []

unfoldable pub rows_before_numbers : Version → List Row
rows_before_numbers v =
    LB3_to_LB12 ++ (LB12a v ++ (LB13 v ++ (LB14 ++ (LB15 v ++ (LB16_to_LB18
    ++ (LB19 v ++ (LB20 ++ (LB20a v ++ (LB21 v ++ (LB21a v ++ LB21b_to_LB24))))))))))

-- ---- LB25. The rows for 15.0 apply to pairs of bases.

unfoldable pub rows_of_numbers : Version → List Row
rows_of_numbers V15_0 =
    never (is (CL ∷ CP ∷ NU ∷ [])) (is (PO ∷ PR ∷ [])) ∷
    never (is (PO ∷ PR ∷ [])) (is (OP ∷ NU ∷ [])) ∷
    never (is (HY ∷ IS ∷ NU ∷ SY ∷ [])) (is (NU ∷ [])) ∷
    []
rows_of_numbers V17_0 =
    never (followed (is (CL ∷ CP ∷ [])) ends_in_number) (is (PO ∷ PR ∷ [])) ∷
    never ends_in_number (is (NU ∷ PO ∷ PR ∷ [])) ∷
    never (is (PO ∷ PR ∷ [])) (followed (is (OP ∷ [])) (is (NU ∷ []))) ∷
    never (is (PO ∷ PR ∷ [])) (followed (is (OP ∷ [])) (followed (is (IS ∷ [])) (is (NU ∷ [])))) ∷
    never (is (HY ∷ IS ∷ PO ∷ PR ∷ [])) (is (NU ∷ [])) ∷
    []

-- ---- LB26 to LB30b

abbrev pub LB26_to_LB28 : List Row
LB26_to_LB28 =
    -- LB26
    never (is (JL ∷ [])) (is (H2 ∷ H3 ∷ JL ∷ JV ∷ [])) ∷
    never (is (H2 ∷ JV ∷ [])) (is (JT ∷ JV ∷ [])) ∷
    never (is (H3 ∷ JT ∷ [])) (is (JT ∷ [])) ∷
    -- LB27
    never (is syllables) (is (PO ∷ [])) ∷
    never (is (PR ∷ [])) (is syllables) ∷
    -- LB28
    never (is letters) (is letters) ∷
    []

abbrev pub LB28a : Version → List Row
LB28a V15_0 = []
LB28a V17_0 =
    never (is (AP ∷ [])) (is_aksara (AK ∷ AS ∷ [])) ∷
    never (is_aksara (AK ∷ AS ∷ [])) (is (VF ∷ VI ∷ [])) ∷
    never (followed (is (VI ∷ [])) (is_aksara (AK ∷ AS ∷ []))) (is_aksara (AK ∷ [])) ∷
    never (is_aksara (AK ∷ AS ∷ [])) (followed (is_aksara (AK ∷ AS ∷ [])) (is (VF ∷ []))) ∷
    []

abbrev pub LB29_to_LB30b : List Row
LB29_to_LB30b =
    -- LB29
    never (is (IS ∷ [])) (is letters) ∷
    -- LB30
    never (is (NU ∷ AL ∷ HL ∷ [])) (is_narrow (OP ∷ [])) ∷
    never (is_narrow (CP ∷ [])) (is (NU ∷ AL ∷ HL ∷ [])) ∷
    -- LB30a
    never ends_in_odd_run (is (RI ∷ [])) ∷
    -- LB30b
    never (is (EB ∷ [])) (is (EM ∷ [])) ∷
    never is_future_pictograph (is (EM ∷ [])) ∷
    []

unfoldable pub rows_after_numbers : Version → List Row
rows_after_numbers v = LB26_to_LB28 ++ (LB28a v ++ LB29_to_LB30b)

-- LB25: one rule if it is applied to whole numbers in 15.0, and otherwise the rows. The rows of 17.0 always
-- cover whole numbers.
abbrev pub numbers : Version → Bool → List Rule
numbers V15_0 true = record { holds = is_in_number; mark = Never } ∷ []
numbers V15_0 false = map rule_of (rows_of_numbers V15_0)
numbers V17_0 whole_numbers = map rule_of (rows_of_numbers V17_0)

unfoldable pub rules : Version → Bool → List Rule
rules v whole_numbers = map rule_of (rows_before_numbers v) ++ (numbers v whole_numbers ++ map rule_of (rows_after_numbers v))

-- the mark of the first rule that applies, or `May` if none does (LB31)
abbrev pub mark_by : List Rule → List BaseCharacter → List BaseCharacter → Mark
mark_by [] before after = May
mark_by (rule ∷ rules) before after = if rule.holds before after then rule.mark else mark_by rules before after
