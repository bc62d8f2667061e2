-- Examples of the definitions.
use Rattle.std.proofs.Common.{◌≡◌, true, false, List, [], ◌∷◌, map, refl}
use Rattle.std.specs.List.{insert}
use Rattle.ucd.specs.declared.line_class.LineClass.{LineClass}
use Rattle.ucd.specs.declared.line_class.LineClass.TheVariants.{AI, AL, B2, BA, BK, CB, CJ, CL, CM, CP, CR, EB, EM, GL, H2, HL, HY, ID, IS, JT, LF, NL, NS, NU, OP, PO, PR, QU, RI, SA, SP, SY, WJ, XX, ZW, ZWJ}
use Rattle.ucd.specs.declared.line_detail.LineDetail.TheVariants.{Plain}
use Rattle.ucd.specs.declared.version.Version.TheVariants.{V15_0}
use Rattle.breaks.specs.Bases.{Character, resolved, bases_of}
use Rattle.breaks.specs.Doubling.{mark_between}
use Rattle.breaks.specs.Marks.{marks_after}
use Rattle.breaks.specs.Rules.{rules, rows_before_numbers, rows_of_numbers, rows_after_numbers}
use Rattle.breaks.specs.declared.mark.Mark.{Mark}
use Rattle.breaks.specs.declared.mark.Mark.TheVariants.{Never, May, Must}

abbrev narrow : LineClass → Character
narrow class = record { class = class; detail = Plain; is_wide = false; is_future_pictograph = false }

abbrev wide : LineClass → Character
wide class = record { class = class; detail = Plain; is_wide = true; is_future_pictograph = false }

abbrev pictograph : LineClass → Character
pictograph class = record { class = class; detail = Plain; is_wide = true; is_future_pictograph = true }

abbrev marks : List Character → List Mark
marks text = marks_after (rules V15_0 false) [] (bases_of text)

abbrev whole_marks : List Character → List Mark
whole_marks text = marks_after (rules V15_0 true) [] (bases_of text)

abbrev marks_by : List LineClass → List Mark
marks_by classes = marks (map narrow classes)

abbrev whole_marks_by : List LineClass → List Mark
whole_marks_by classes = whole_marks (map narrow classes)

-- LB1 resolves the classes AI, SA, CJ and XX
ambiguous : resolved AI true ≡ AL
ambiguous = refl

complex_mark : resolved SA true ≡ CM
complex_mark = refl

complex_letter : resolved SA false ≡ AL
complex_letter = refl

small_kana : resolved CJ false ≡ NS
small_kana = refl

unknown : resolved XX true ≡ AL
unknown = refl

-- LB3 to LB6: a line must end after BK, CR, LF or NL, except between CR and LF. After other characters, no
-- line ends before one of these.
ends : marks_by (AL ∷ CR ∷ LF ∷ []) ≡ Never ∷ Never ∷ Must ∷ []
unfolding rules rows_before_numbers rows_of_numbers rows_after_numbers
ends = refl

between : marks_by (AL ∷ BK ∷ AL ∷ []) ≡ Never ∷ Must ∷ Must ∷ []
unfolding rules rows_before_numbers rows_of_numbers rows_after_numbers
between = refl

twice : marks_by (LF ∷ CR ∷ NL ∷ []) ≡ Must ∷ Must ∷ Must ∷ []
unfolding rules rows_before_numbers rows_of_numbers rows_after_numbers
twice = refl

-- LB7, LB8 and LB18: a line may end after spaces, but not before them
spaces : marks_by (AL ∷ SP ∷ SP ∷ AL ∷ []) ≡ Never ∷ Never ∷ May ∷ Must ∷ []
unfolding rules rows_before_numbers rows_of_numbers rows_after_numbers
spaces = refl

zero_width : marks_by (AL ∷ ZW ∷ SP ∷ CL ∷ []) ≡ Never ∷ Never ∷ May ∷ Must ∷ []
unfolding rules rows_before_numbers rows_of_numbers rows_after_numbers
zero_width = refl

-- LB8a and LB9: no line ends after a ZWJ, whether it is a base itself or is attached to one
joiner : marks_by (AL ∷ ZWJ ∷ ID ∷ []) ≡ Never ∷ Never ∷ Must ∷ []
unfolding rules rows_before_numbers rows_of_numbers rows_after_numbers
joiner = refl

joiner_within : marks_by (AL ∷ ZWJ ∷ CM ∷ ID ∷ []) ≡ Never ∷ Never ∷ May ∷ Must ∷ []
unfolding rules rows_before_numbers rows_of_numbers rows_after_numbers
joiner_within = refl

-- LB10: a combining mark after a space counts as AL, with the marks after it attached
lone_mark : marks_by (AL ∷ SP ∷ CM ∷ CM ∷ AL ∷ []) ≡ Never ∷ May ∷ Never ∷ Never ∷ Must ∷ []
unfolding rules rows_before_numbers rows_of_numbers rows_after_numbers
lone_mark = refl

-- LB11 to LB12a
word_joiner : marks_by (ID ∷ WJ ∷ ID ∷ []) ≡ Never ∷ Never ∷ Must ∷ []
unfolding rules rows_before_numbers rows_of_numbers rows_after_numbers
word_joiner = refl

glue : marks_by (BA ∷ GL ∷ ID ∷ GL ∷ []) ≡ May ∷ Never ∷ Never ∷ Must ∷ []
unfolding rules rows_before_numbers rows_of_numbers rows_after_numbers
glue = refl

-- LB13 to LB17 hold across spaces
opening : marks_by (OP ∷ SP ∷ AL ∷ []) ≡ Never ∷ Never ∷ Must ∷ []
unfolding rules rows_before_numbers rows_of_numbers rows_after_numbers
opening = refl

quotation : marks_by (QU ∷ SP ∷ OP ∷ []) ≡ Never ∷ Never ∷ Must ∷ []
unfolding rules rows_before_numbers rows_of_numbers rows_after_numbers
quotation = refl

closing : marks_by (CP ∷ SP ∷ NS ∷ []) ≡ Never ∷ Never ∷ Must ∷ []
unfolding rules rows_before_numbers rows_of_numbers rows_after_numbers
closing = refl

dashes : marks_by (B2 ∷ SP ∷ B2 ∷ []) ≡ Never ∷ Never ∷ Must ∷ []
unfolding rules rows_before_numbers rows_of_numbers rows_after_numbers
dashes = refl

-- LB20 and LB21
contingent : marks_by (AL ∷ CB ∷ AL ∷ []) ≡ May ∷ May ∷ Must ∷ []
unfolding rules rows_before_numbers rows_of_numbers rows_after_numbers
contingent = refl

hyphen : marks_by (AL ∷ HY ∷ AL ∷ []) ≡ Never ∷ May ∷ Must ∷ []
unfolding rules rows_before_numbers rows_of_numbers rows_after_numbers
hyphen = refl

hebrew_hyphen : marks_by (HL ∷ HY ∷ HL ∷ []) ≡ Never ∷ Never ∷ Must ∷ []
unfolding rules rows_before_numbers rows_of_numbers rows_after_numbers
hebrew_hyphen = refl

hebrew_solidus : marks_by (SY ∷ HL ∷ SY ∷ AL ∷ []) ≡ Never ∷ Never ∷ May ∷ Must ∷ []
unfolding rules rows_before_numbers rows_of_numbers rows_after_numbers
hebrew_solidus = refl

-- LB23 to LB29: numbers, syllables and letters
price : marks_by (PR ∷ NU ∷ IS ∷ NU ∷ PO ∷ []) ≡ Never ∷ Never ∷ Never ∷ Never ∷ Must ∷ []
unfolding rules rows_before_numbers rows_of_numbers rows_after_numbers
price = refl

in_parentheses : marks_by (PR ∷ OP ∷ NU ∷ CP ∷ PO ∷ []) ≡ Never ∷ Never ∷ Never ∷ Never ∷ Must ∷ []
unfolding rules rows_before_numbers rows_of_numbers rows_after_numbers
in_parentheses = refl

-- LB25 as rules on pairs of bases, and with whole numbers
opened_price : (marks_by (PR ∷ OP ∷ NU ∷ []) ≡ Never ∷ Never ∷ Must ∷ []) × (whole_marks_by (PR ∷ OP ∷ NU ∷ []) ≡ Never ∷ Never ∷ Must ∷ [])
unfolding rules rows_before_numbers rows_of_numbers rows_after_numbers
opened_price = (refl, refl)

opened_letter : (marks_by (PR ∷ OP ∷ AL ∷ []) ≡ Never ∷ Never ∷ Must ∷ []) × (whole_marks_by (PR ∷ OP ∷ AL ∷ []) ≡ May ∷ Never ∷ Must ∷ [])
unfolding rules rows_before_numbers rows_of_numbers rows_after_numbers
opened_letter = (refl, refl)

opened_mark : (marks_by (PR ∷ OP ∷ CM ∷ NU ∷ []) ≡ Never ∷ Never ∷ Never ∷ Must ∷ []) × (whole_marks_by (PR ∷ OP ∷ CM ∷ NU ∷ []) ≡ Never ∷ Never ∷ Never ∷ Must ∷ [])
unfolding rules rows_before_numbers rows_of_numbers rows_after_numbers
opened_mark = (refl, refl)

closed_letter : (marks_by (AL ∷ CL ∷ PO ∷ []) ≡ Never ∷ Never ∷ Must ∷ []) × (whole_marks_by (AL ∷ CL ∷ PO ∷ []) ≡ Never ∷ May ∷ Must ∷ [])
unfolding rules rows_before_numbers rows_of_numbers rows_after_numbers
closed_letter = (refl, refl)

closed_digit : (marks_by (NU ∷ CL ∷ PO ∷ []) ≡ Never ∷ Never ∷ Must ∷ []) × (whole_marks_by (NU ∷ CL ∷ PO ∷ []) ≡ Never ∷ Never ∷ Must ∷ [])
unfolding rules rows_before_numbers rows_of_numbers rows_after_numbers
closed_digit = (refl, refl)

solidus : (marks_by (NU ∷ SY ∷ PO ∷ []) ≡ Never ∷ May ∷ Must ∷ []) × (whole_marks_by (NU ∷ SY ∷ PO ∷ []) ≡ Never ∷ Never ∷ Must ∷ [])
unfolding rules rows_before_numbers rows_of_numbers rows_after_numbers
solidus = (refl, refl)

listed_letter : (marks_by (AL ∷ IS ∷ NU ∷ []) ≡ Never ∷ Never ∷ Must ∷ []) × (whole_marks_by (AL ∷ IS ∷ NU ∷ []) ≡ Never ∷ May ∷ Must ∷ [])
unfolding rules rows_before_numbers rows_of_numbers rows_after_numbers
listed_letter = (refl, refl)

listed_digit : (marks_by (NU ∷ IS ∷ NU ∷ []) ≡ Never ∷ Never ∷ Must ∷ []) × (whole_marks_by (NU ∷ IS ∷ NU ∷ []) ≡ Never ∷ Never ∷ Must ∷ [])
unfolding rules rows_before_numbers rows_of_numbers rows_after_numbers
listed_digit = (refl, refl)

-- a whole price, a negative one in parentheses, and one with a space inside
amount : (marks_by (PR ∷ NU ∷ IS ∷ NU ∷ NU ∷ NU ∷ IS ∷ NU ∷ [])
    ≡ Never ∷ Never ∷ Never ∷ Never ∷ Never ∷ Never ∷ Never ∷ Must ∷ [])
    × (whole_marks_by (PR ∷ NU ∷ IS ∷ NU ∷ NU ∷ NU ∷ IS ∷ NU ∷ [])
    ≡ Never ∷ Never ∷ Never ∷ Never ∷ Never ∷ Never ∷ Never ∷ Must ∷ [])
unfolding rules rows_before_numbers rows_of_numbers rows_after_numbers
amount = (refl, refl)

debt : (marks_by (PO ∷ HY ∷ NU ∷ NU ∷ CP ∷ PR ∷ SY ∷ PR ∷ [])
    ≡ Never ∷ Never ∷ Never ∷ Never ∷ Never ∷ Never ∷ May ∷ Must ∷ [])
    × (whole_marks_by (PO ∷ HY ∷ NU ∷ NU ∷ CP ∷ PR ∷ SY ∷ PR ∷ [])
    ≡ Never ∷ Never ∷ Never ∷ Never ∷ Never ∷ Never ∷ May ∷ Must ∷ [])
unfolding rules rows_before_numbers rows_of_numbers rows_after_numbers
debt = (refl, refl)

spaced : (marks_by (PR ∷ SP ∷ NU ∷ PO ∷ []) ≡ Never ∷ May ∷ Never ∷ Must ∷ []) × (whole_marks_by (PR ∷ SP ∷ NU ∷ PO ∷ []) ≡ Never ∷ May ∷ Never ∷ Must ∷ [])
unfolding rules rows_before_numbers rows_of_numbers rows_after_numbers
spaced = (refl, refl)

syllables : marks_by (H2 ∷ JT ∷ PO ∷ ID ∷ []) ≡ Never ∷ Never ∷ May ∷ Must ∷ []
unfolding rules rows_before_numbers rows_of_numbers rows_after_numbers
syllables = refl

-- LB30 applies to a parenthesis that is not wide
narrow_parenthesis : marks (narrow AL ∷ narrow OP ∷ narrow AL ∷ narrow CP ∷ narrow AL ∷ []) ≡ Never ∷ Never ∷ Never ∷ Never ∷ Must ∷ []
unfolding rules rows_before_numbers rows_of_numbers rows_after_numbers
narrow_parenthesis = refl

wide_parenthesis : marks (narrow AL ∷ wide OP ∷ narrow AL ∷ wide CP ∷ narrow AL ∷ []) ≡ May ∷ Never ∷ Never ∷ May ∷ Must ∷ []
unfolding rules rows_before_numbers rows_of_numbers rows_after_numbers
wide_parenthesis = refl

-- LB30a: regional indicators form pairs from the start of their run
flags : marks_by (RI ∷ RI ∷ CM ∷ RI ∷ RI ∷ RI ∷ []) ≡ Never ∷ Never ∷ May ∷ Never ∷ May ∷ Must ∷ []
unfolding rules rows_before_numbers rows_of_numbers rows_after_numbers
flags = refl

flags_again : marks_by (RI ∷ AL ∷ RI ∷ RI ∷ []) ≡ May ∷ May ∷ Never ∷ Must ∷ []
unfolding rules rows_before_numbers rows_of_numbers rows_after_numbers
flags_again = refl

-- LB30b: an emoji modifier after its base, or after a future pictograph
modifier : marks_by (EB ∷ EM ∷ ID ∷ EM ∷ []) ≡ Never ∷ May ∷ May ∷ Must ∷ []
unfolding rules rows_before_numbers rows_of_numbers rows_after_numbers
modifier = refl

future_modifier : marks (pictograph ID ∷ narrow EM ∷ []) ≡ Never ∷ Must ∷ []
unfolding rules rows_before_numbers rows_of_numbers rows_after_numbers
future_modifier = refl

-- doubling a character adds only the mark between the two
doubled_space : marks_by (OP ∷ SP ∷ SP ∷ AL ∷ []) ≡ insert (marks_by (OP ∷ SP ∷ AL ∷ [])) 1 (mark_between SP)
unfolding rules rows_before_numbers rows_of_numbers rows_after_numbers
doubled_space = refl

doubled_digit : whole_marks_by (PR ∷ NU ∷ NU ∷ IS ∷ NU ∷ []) ≡ insert (whole_marks_by (PR ∷ NU ∷ IS ∷ NU ∷ [])) 1 (mark_between NU)
unfolding rules rows_before_numbers rows_of_numbers rows_after_numbers
doubled_digit = refl

doubled_ideograph : marks_by (PR ∷ ID ∷ ID ∷ CM ∷ PO ∷ []) ≡ insert (marks_by (PR ∷ ID ∷ CM ∷ PO ∷ [])) 1 (mark_between ID)
unfolding rules rows_before_numbers rows_of_numbers rows_after_numbers
doubled_ideograph = refl

-- a second HY changes the mark before the last HL (LB21a)
two_hyphens : marks_by (HL ∷ HY ∷ HY ∷ HL ∷ []) ≡ Never ∷ Never ∷ May ∷ Must ∷ []
unfolding rules rows_before_numbers rows_of_numbers rows_after_numbers
two_hyphens = refl

-- an empty text has no break marks
nothing : marks [] ≡ []
unfolding rules rows_before_numbers rows_of_numbers rows_after_numbers
nothing = refl
