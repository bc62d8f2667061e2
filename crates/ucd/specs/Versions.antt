-- How the versions of Unicode differ.
use Rattle.std.specs.Prelude.{ℕ, ◌<◌, nat_lt, ◌==◌, Bool, true, false, List, Option, Some, option_map, if◌then◌else◌}
use Rattle.ucd.specs.Answers.{PropertyAnswers, line_tag, line_number}
use Rattle.ucd.specs.Grammar.{Form}
use Rattle.ucd.specs.LineClasses.{class_named, class_named_15}
use Rattle.ucd.specs.declared.category.Category.{Category}
use Rattle.ucd.specs.declared.category.Category.TheVariants.{InitialQuote, FinalQuote}
use Rattle.ucd.specs.declared.line_class.LineClass.{LineClass}
use Rattle.ucd.specs.declared.line_class.LineClass.TheVariants.{AI, AL, QU, SA, SG, XX}
use Rattle.ucd.specs.declared.line_class.TheConstants.{LINE_CLASS_COUNT_15}
use Rattle.ucd.specs.declared.line_detail.LineDetail.{LineDetail}
use Rattle.ucd.specs.declared.line_detail.LineDetail.TheVariants.{Plain, Initial, Final, DottedCircle}
use Rattle.ucd.specs.declared.version.Version.{Version}
use Rattle.ucd.specs.declared.version.Version.TheVariants.{V15_0, V17_0}

-- the line breaking class with this short name, if the version has one
abbrev pub class_named_in : Version → List ℕ → Option LineClass
class_named_in V15_0 name = class_named_15 name
class_named_in V17_0 name = class_named name

-- LineBreak.txt: a code point or a range, and the name of a class
abbrev pub line_class_form : Version → Form LineClass
line_class_form version = record { has_ranges = true; has_third = false; value = λ name _. option_map Some (class_named_in version name) }

-- the class itself if the version has it, or else XX
abbrev pub line_class_in : Version → LineClass → LineClass
line_class_in V15_0 class = if nat_lt (line_tag class) LINE_CLASS_COUNT_15 then class else XX
line_class_in V17_0 class = class

-- how many line-breaking numbers the version has
abbrev pub number_count : Version → ℕ
number_count V15_0 = 43
number_count V17_0 = 56

-- the line-breaking number of the properties exists in the version
abbrev pub IsOfVersion : Version → PropertyAnswers → Type 0
IsOfVersion version a = line_number a.line_class a.line_detail < number_count version

abbrev pub is_quotation : LineClass → Bool
is_quotation QU = true
is_quotation _ = false

-- whether LB1 resolves the class to AL (SA only if the character is not a mark)
abbrev pub is_alphabetic : LineClass → Bool
is_alphabetic AI = true
is_alphabetic AL = true
is_alphabetic SA = true
is_alphabetic SG = true
is_alphabetic XX = true
is_alphabetic _ = false

-- the detail of a character: that of a quotation mark if its class is QU and its category Pi or Pf, and
-- otherwise `detail`
abbrev pub quote_by : Category → LineClass → LineDetail → LineDetail
quote_by InitialQuote class detail = if is_quotation class then Initial else detail
quote_by FinalQuote class detail = if is_quotation class then Final else detail
quote_by _ class detail = detail

abbrev pub quote_in : Version → Category → LineClass → LineDetail → LineDetail
quote_in V15_0 category class detail = detail
quote_in V17_0 category class detail = quote_by category class detail

-- the detail of U+25CC: `DottedCircle` if LB1 resolves its class to AL, and otherwise `detail`
abbrev pub circle_by : LineClass → LineDetail → LineDetail
circle_by class detail = if is_alphabetic class then DottedCircle else detail

-- The detail of a code point, given its general category and its class. In Unicode 17.0, U+25CC and quotation
-- marks of the categories Pi and Pf have a detail.
abbrev pub detail_by : Version → Category → LineClass → ℕ → LineDetail
detail_by V15_0 category class c = Plain
detail_by V17_0 category class c = quote_by category class (if c == 0x25CC then circle_by class Plain else Plain)
