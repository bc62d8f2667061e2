-- Brackets and mirrors, as BidiBrackets.txt and BidiMirroring.txt list them (UAX #9, BD14 to BD16 and L4).
use Rattle.std.specs.Prelude.{ℕ, List, Bool, true, false, codes, Option, Some, None, option_map, if◌then◌else◌}
use Rattle.std.specs.Str.{bytes_eq}
use lib.Utf8.{scalar}
use Rattle.ucd.specs.Grammar.{Form, code_point}
use Rattle.ucd.specs.declared.bracket.Bracket.{Bracket}
use Rattle.ucd.specs.declared.bracket.Mirror.{Mirror}

-- the same number if it is a scalar value, or `None` if not
abbrev pub scalar_only : Option ℕ → Option ℕ
scalar_only None = None
scalar_only (Some c) = if scalar c then Some c else None

-- the code point that 4 to 6 hexadecimal digits denote, if it is a scalar value
abbrev pub character_of : List ℕ → Option ℕ
character_of digits = scalar_only (code_point digits)

-- true for the bracket type `o` (opening), false for `c` (closing), and `None` for any other
abbrev pub opens_of : List ℕ → Option Bool
opens_of kind = if bytes_eq (codes "o") kind then Some true else (if bytes_eq (codes "c") kind then Some false else None)

abbrev pub bracket_by : Option ℕ → Option Bool → Option Bracket
bracket_by (Some pair) (Some opens) = Some (record { pair = pair; opens = opens })
bracket_by (Some pair) None = None
bracket_by None opens = None

-- BidiBrackets.txt: a code point, its pair, and its type
abbrev pub bracket_form : Form Bracket
bracket_form = record { has_ranges = false; has_third = true; value = λ pair kind. option_map Some (bracket_by (character_of pair) (opens_of kind)) }

-- BidiMirroring.txt: a code point and its mirror
abbrev pub mirror_form : Form Mirror
mirror_form = record { has_ranges = false; has_third = false; value = λ mirror _. option_map (λ c. Some (record { 0 = c })) (character_of mirror) }
