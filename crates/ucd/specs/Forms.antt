-- The forms of letters: whether a letter joins on its right, on its left, on both sides or on none. The decompositions of UnicodeData.txt
-- tag presentation forms with them.
use Rattle.std.specs.Prelude.{ℕ, ◌+◌, ◌*◌, Bool, true, false, List, codes, Option, Some, None, if◌then◌else◌}
use Rattle.std.specs.List.{before_first}
use Rattle.std.specs.Str.{bytes_eq}
use Rattle.ucd.specs.Grammar.{code_point, is_delimiter, rest_after}
use Rattle.ucd.specs.declared.form.Form.{Form}
use Rattle.ucd.specs.declared.form.Form.TheVariants.{Isolated, Final, Initial, Medial}

-- the form of a letter that joins on its right and on its left, as given
abbrev pub form_by : Bool → Bool → Form
form_by true true = Medial
form_by true false = Final
form_by false true = Initial
form_by false false = Isolated

-- a number that differs for each form
abbrev pub form_number : Form → ℕ
form_number Isolated = 0
form_number Final = 1
form_number Initial = 2
form_number Medial = 3

-- a number that differs for each form of each letter
abbrev pub form_key : Form → ℕ → ℕ
form_key form letter = 4 * letter + form_number form

abbrev pub form_tagged : List ℕ → Option Form
form_tagged tag =
    if bytes_eq (codes "<isolated>") tag then Some Isolated
    else (if bytes_eq (codes "<final>") tag then Some Final
    else (if bytes_eq (codes "<initial>") tag then Some Initial
    else (if bytes_eq (codes "<medial>") tag then Some Medial else None)))

abbrev pub code_point_in : Option (List ℕ) → Option ℕ
code_point_in None = None
code_point_in (Some digits) = code_point digits

abbrev pub form_with : Option Form → Option ℕ → Option (Form × ℕ)
form_with (Some form) (Some letter) = Some (form, letter)
form_with (Some form) None = None
form_with None letter = None

-- The form and the letter that a decomposition names by a tag, a space and one code point, such as `<final> 0628`.
abbrev pub form_in : List ℕ → Option (Form × ℕ)
form_in decomposition =
    form_with (form_tagged (before_first (is_delimiter 32) decomposition)) (code_point_in (rest_after 32 decomposition))
