-- What a line of ArabicShaping.txt or UnicodeData.txt says of cursive joining. Both files have the fields, white space and comments of the
-- other table files.
use Rattle.std.specs.Prelude.{⊤, ◌≡◌, ◌<◌, ◌≤◌, ℕ, ◌+◌, ◌-◌, ◌==◌, ◌||◌, nat_lt, not, Bool, true, false, List, [], codes, drop, length, slice_index_or, Option, Some, None, Result, Ok, Err, if◌then◌else◌}
use Rattle.std.specs.Char.{is_ascii}
use Rattle.std.specs.List.{list_all, slice_split}
use Rattle.std.specs.Str.{bytes_eq}
use Rattle.ucd.specs.Forms.{form_in}
use Rattle.ucd.specs.Grammar.{before_comment, code_point, content_of, is_delimiter, is_one_of, spaces, trimmed}
use Rattle.ucd.specs.declared.fault.Cause.{Cause}
use Rattle.ucd.specs.declared.fault.Cause.TheVariants as cause
use Rattle.ucd.specs.declared.form.Form.{Form}
use Rattle.ucd.specs.declared.joining_line.Claim.{Claim}
use Rattle.ucd.specs.declared.joining_line.JoiningFile.{JoiningFile}
use Rattle.ucd.specs.declared.joining_line.JoiningFile.TheVariants.{ArabicShaping, UnicodeData}
use Rattle.ucd.specs.declared.joining_type.JoiningType.{JoiningType}
use Rattle.ucd.specs.declared.joining_type.JoiningType.TheVariants.{RightJoining, LeftJoining, DualJoining, JoinCausing, NonJoining, Transparent}

abbrev pub joining_type_named : List ℕ → Option JoiningType
joining_type_named name =
    if bytes_eq (codes "R") name then Some RightJoining
    else (if bytes_eq (codes "L") name then Some LeftJoining
    else (if bytes_eq (codes "D") name then Some DualJoining
    else (if bytes_eq (codes "C") name then Some JoinCausing
    else (if bytes_eq (codes "U") name then Some NonJoining
    else (if bytes_eq (codes "T") name then Some Transparent else None)))))

-- the joining type of characters of a general category that ArabicShaping.txt does not list
abbrev pub joining_type_by_category : List ℕ → JoiningType
joining_type_by_category name =
    if bytes_eq (codes "Mn") name || (bytes_eq (codes "Me") name || bytes_eq (codes "Cf") name) then Transparent else NonJoining

-- the field with the given number, counted from 0, or an empty field past the end
abbrev pub field : List ℕ → ℕ → List ℕ
field content number = trimmed (is_one_of spaces) (slice_index_or (slice_split (is_delimiter 59) content) number [])

-- whether a name ends in a text
abbrev pub ends_in : List ℕ → List ℕ → Bool
ends_in end name = bytes_eq end (drop (length name - length end) name)

abbrev pub begins_range : List ℕ → Bool
begins_range name = ends_in (codes ", First>") name

abbrev pub ends_range : List ℕ → Bool
ends_range name = ends_in (codes ", Last>") name

-- ArabicShaping.txt: a code point, a name, the joining type, and the joining group
abbrev pub shaping_by : Option ℕ → Option JoiningType → Result (Option Claim) Cause
shaping_by None joining = Err cause.CodePoint
shaping_by (Some c) None = Err cause.Value
shaping_by (Some c) (Some joining) = Ok (Some (record { first = c; last = c; joining = joining; form = None; begins = false }))

-- The first code point of a line of UnicodeData.txt. A line that ends a range has the code points after that of the line before it, which
-- must begin the range. Any other line has one code point.
abbrev pub first_by : Option ℕ → Bool → ℕ → Result ℕ Cause
first_by None false c = Ok c
first_by None true c = Err cause.Value
first_by (Some before) false c = Err cause.Value
first_by (Some before) true c = if nat_lt before c then Ok (before + 1) else Err cause.Reversed

abbrev pub data_from : Result ℕ Cause → ℕ → List ℕ → JoiningType → Option (Form × ℕ) → Result (Option Claim) Cause
data_from (Err why) c name joining form = Err why
data_from (Ok first) c name joining form =
    Ok (Some (record { first = first; last = c; joining = joining; form = form; begins = begins_range name }))

-- UnicodeData.txt: a code point, a name, the general category, and in field 5 the decomposition
abbrev pub data_by : Option ℕ → Option ℕ → List ℕ → JoiningType → Option (Form × ℕ) → Result (Option Claim) Cause
data_by before None name joining form = Err cause.CodePoint
data_by before (Some c) name joining form = data_from (first_by before (ends_range name) c) c name joining form

abbrev pub field_count : JoiningFile → ℕ
field_count ArabicShaping = 4
field_count UnicodeData = 15

-- what the fields of a line say, given the code point of the line before it if that line begins a range
abbrev pub claim_by : JoiningFile → Option ℕ → List ℕ → Result (Option Claim) Cause
claim_by ArabicShaping before content = shaping_by (code_point (field content 0)) (joining_type_named (field content 2))
claim_by UnicodeData before content =
    data_by before (code_point (field content 0)) (field content 1) (joining_type_by_category (field content 2)) (form_in (field content 5))

-- The result of parsing a line: nothing for a blank line, what the line says, or the cause that the first failing test reports.
abbrev pub claim_in : JoiningFile → Option ℕ → List ℕ → Result (Option Claim) Cause
claim_in file before line =
    if not (list_all is_ascii (before_comment line)) then Err cause.NotAscii
    else (if length (content_of line) == 0 then Ok None
    else (if length (slice_split (is_delimiter 59) (content_of line)) == field_count file then claim_by file before (content_of line)
    else Err cause.FieldCount))

-- the code point of a line that begins a range, for the line after it
abbrev pub before_next : Result (Option Claim) Cause → Option ℕ
before_next (Ok (Some claim)) = if claim.begins then Some claim.last else None
before_next (Ok None) = None
before_next (Err why) = None

-- a range that is not empty, and code points
abbrev pub IsWithin : Claim → Type 0
IsWithin claim =
    (claim.first ≤ claim.last) × (claim.last < 1114112)
    × ((form : Form) (letter : ℕ) → claim.form ≡ Some (form, letter) → letter < 1114112)

abbrev pub IsReadWithin : Result (Option Claim) Cause → Type 0
IsReadWithin (Ok (Some claim)) = IsWithin claim
IsReadWithin (Ok None) = ⊤
IsReadWithin (Err why) = ⊤
