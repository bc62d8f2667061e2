-- Examples of the rules of Unicode 17.0.
use Rattle.std.proofs.Common.{◌≡◌, false, List, [], ◌∷◌, map, refl}
use Rattle.ucd.specs.declared.line_class.LineClass.{LineClass}
use Rattle.ucd.specs.declared.line_class.LineClass.TheVariants.{AK, AL, CM, CP, HH, HL, HY, ID, IS, NU, OP, PO, PR, SP, SY, VF, VI, XX}
use Rattle.ucd.specs.declared.line_detail.LineDetail.TheVariants.{Final, Initial}
use Rattle.ucd.specs.declared.version.Version.TheVariants.{V15_0, V17_0}
use Rattle.breaks.specs.Bases.{Character, bases_of, known}
use Rattle.breaks.specs.Doubling.{can_be_doubled}
use Rattle.breaks.specs.Marks.{marks_after}
use Rattle.breaks.specs.Rules.{rules, rows_before_numbers, rows_of_numbers, rows_after_numbers}
use Rattle.breaks.specs.Symbols.{dotted_circle, narrow, quote, wide}
use Rattle.breaks.specs.declared.mark.Mark.{Mark}
use Rattle.breaks.specs.declared.mark.Mark.TheVariants.{Never, May, Must}

abbrev marks : List Character → List Mark
marks text = marks_after (rules V17_0 false) [] (bases_of text)

abbrev marks_by : List LineClass → List Mark
marks_by classes = marks (map narrow classes)

-- Unicode 15.0 does not have these classes
unknown_in_15 : known V15_0 AK ≡ XX
unknown_in_15 = refl

known_in_17 : known V17_0 AK ≡ AK
known_in_17 = refl

-- LB15a prohibits a break after an opening quotation mark, even after spaces
opening_quote : marks (quote Initial ∷ narrow SP ∷ narrow AL ∷ []) ≡ Never ∷ Never ∷ Must ∷ []
unfolding rules rows_before_numbers rows_of_numbers rows_after_numbers
opening_quote = refl

-- LB15b: no break before a quotation mark at the end of a text, or before one of the classes that the rule lists
closing_quote : marks (narrow SP ∷ quote Final ∷ []) ≡ Never ∷ Must ∷ []
unfolding rules rows_before_numbers rows_of_numbers rows_after_numbers
closing_quote = refl

quote_before_letter : marks (narrow SP ∷ quote Final ∷ narrow AL ∷ []) ≡ May ∷ Never ∷ Must ∷ []
unfolding rules rows_before_numbers rows_of_numbers rows_after_numbers
quote_before_letter = refl

-- a CM after a space is neither part of the space nor attached to the quotation mark before it
quote_before_space_and_mark : marks (narrow SP ∷ quote Final ∷ narrow CM ∷ narrow SP ∷ narrow CM ∷ []) ≡ Never ∷ Never ∷ Never ∷ May ∷ Must ∷ []
unfolding rules rows_before_numbers rows_of_numbers rows_after_numbers
quote_before_space_and_mark = refl

-- LB15c and LB15d
decimal_fraction : marks_by (SP ∷ IS ∷ NU ∷ []) ≡ May ∷ Never ∷ Must ∷ []
unfolding rules rows_before_numbers rows_of_numbers rows_after_numbers
decimal_fraction = refl

decimal_fraction_with_mark : marks_by (SP ∷ IS ∷ CM ∷ NU ∷ []) ≡ May ∷ Never ∷ Never ∷ Must ∷ []
unfolding rules rows_before_numbers rows_of_numbers rows_after_numbers
decimal_fraction_with_mark = refl

full_stop_after_space : marks_by (SP ∷ IS ∷ AL ∷ []) ≡ Never ∷ Never ∷ Must ∷ []
unfolding rules rows_before_numbers rows_of_numbers rows_after_numbers
full_stop_after_space = refl

-- LB19 and LB19a: between East Asian characters, lines may end outside of quotations
chinese_quotation : marks (wide ID ∷ quote Initial ∷ wide ID ∷ quote Final ∷ wide ID ∷ []) ≡ May ∷ Never ∷ Never ∷ May ∷ Must ∷ []
unfolding rules rows_before_numbers rows_of_numbers rows_after_numbers
chinese_quotation = refl

other_quotation : marks (narrow ID ∷ quote Initial ∷ narrow ID ∷ quote Final ∷ narrow ID ∷ []) ≡ Never ∷ Never ∷ Never ∷ Never ∷ Must ∷ []
unfolding rules rows_before_numbers rows_of_numbers rows_after_numbers
other_quotation = refl

-- a CM that LB10 turns into AL is not East Asian
wide_mark_alone : marks (narrow SP ∷ wide CM ∷ quote Initial ∷ wide ID ∷ []) ≡ May ∷ Never ∷ Never ∷ Must ∷ []
unfolding rules rows_before_numbers rows_of_numbers rows_after_numbers
wide_mark_alone = refl

-- LB20a
option_of_a_command : marks_by (SP ∷ HY ∷ AL ∷ []) ≡ May ∷ Never ∷ Must ∷ []
unfolding rules rows_before_numbers rows_of_numbers rows_after_numbers
option_of_a_command = refl

hyphen_between_letters : marks_by (AL ∷ HY ∷ AL ∷ []) ≡ Never ∷ May ∷ Must ∷ []
unfolding rules rows_before_numbers rows_of_numbers rows_after_numbers
hyphen_between_letters = refl

-- LB21a: maqaf
hebrew_words : marks_by (HL ∷ HH ∷ HL ∷ []) ≡ Never ∷ May ∷ Must ∷ []
unfolding rules rows_before_numbers rows_of_numbers rows_after_numbers
hebrew_words = refl

hebrew_and_latin : marks_by (HL ∷ HH ∷ AL ∷ []) ≡ Never ∷ Never ∷ Must ∷ []
unfolding rules rows_before_numbers rows_of_numbers rows_after_numbers
hebrew_and_latin = refl

-- LB25
shell_substitution : marks_by (PR ∷ OP ∷ AL ∷ []) ≡ May ∷ Never ∷ Must ∷ []
unfolding rules rows_before_numbers rows_of_numbers rows_after_numbers
shell_substitution = refl

amount : marks_by (PR ∷ OP ∷ NU ∷ SY ∷ NU ∷ CP ∷ PO ∷ []) ≡ Never ∷ Never ∷ Never ∷ Never ∷ Never ∷ Never ∷ Must ∷ []
unfolding rules rows_before_numbers rows_of_numbers rows_after_numbers
amount = refl

fraction_in_parentheses : marks_by (PO ∷ OP ∷ IS ∷ NU ∷ []) ≡ Never ∷ Never ∷ Never ∷ Must ∷ []
unfolding rules rows_before_numbers rows_of_numbers rows_after_numbers
fraction_in_parentheses = refl

stop_in_parentheses : marks_by (PO ∷ OP ∷ IS ∷ AL ∷ []) ≡ May ∷ Never ∷ Never ∷ Must ∷ []
unfolding rules rows_before_numbers rows_of_numbers rows_after_numbers
stop_in_parentheses = refl

letter_over_digit : marks_by (AL ∷ SY ∷ NU ∷ []) ≡ Never ∷ May ∷ Must ∷ []
unfolding rules rows_before_numbers rows_of_numbers rows_after_numbers
letter_over_digit = refl

percent_after_words : marks_by (AL ∷ CP ∷ PO ∷ []) ≡ Never ∷ May ∷ Must ∷ []
unfolding rules rows_before_numbers rows_of_numbers rows_after_numbers
percent_after_words = refl

-- LB28a
aksaras : marks_by (AK ∷ CM ∷ AK ∷ CM ∷ VF ∷ []) ≡ Never ∷ Never ∷ Never ∷ Never ∷ Must ∷ []
unfolding rules rows_before_numbers rows_of_numbers rows_after_numbers
aksaras = refl

aksaras_without_vowel : marks_by (AK ∷ AK ∷ []) ≡ May ∷ Must ∷ []
unfolding rules rows_before_numbers rows_of_numbers rows_after_numbers
aksaras_without_vowel = refl

circle_and_aksara : marks (dotted_circle ∷ narrow VI ∷ dotted_circle ∷ []) ≡ Never ∷ Never ∷ Must ∷ []
unfolding rules rows_before_numbers rows_of_numbers rows_after_numbers
circle_and_aksara = refl

-- a second U+25CC changes the mark after the AK, so U+25CC cannot be doubled
no_doubled_circle : can_be_doubled dotted_circle ≡ false
no_doubled_circle = refl

circle_before_vowel : marks (narrow AK ∷ dotted_circle ∷ narrow VF ∷ []) ≡ Never ∷ Never ∷ Must ∷ []
unfolding rules rows_before_numbers rows_of_numbers rows_after_numbers
circle_before_vowel = refl

two_circles : marks (narrow AK ∷ dotted_circle ∷ dotted_circle ∷ narrow VF ∷ []) ≡ May ∷ Never ∷ Never ∷ Must ∷ []
unfolding rules rows_before_numbers rows_of_numbers rows_after_numbers
two_circles = refl
