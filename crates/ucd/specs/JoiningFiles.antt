-- What the lines of ArabicShaping.txt or UnicodeData.txt say together, and the first faulty line.
use Rattle.std.specs.Prelude.{◌≡◌, ℕ, ◌==◌, ◌-◌, ◌<◌, ◌⊎◌, nat_le, Bool, ◌&&◌, List, [], ◌∷◌, length, slice_index_or, Option, Some, None, IsSome, Result, Ok, Err, if◌then◌else◌}
use Rattle.std.specs.BTreeMap.{get}
use Rattle.std.specs.Option.{option_or}
use Rattle.std.specs.Ordering.{nat_cmp}
use Rattle.ucd.specs.Forms.{form_key}
use Rattle.ucd.specs.JoiningLines.{before_next, claim_in}
use Rattle.ucd.specs.declared.claims.Claims.{Claims}
use Rattle.ucd.specs.declared.fault.Cause.{Cause}
use Rattle.ucd.specs.declared.fault.Cause.TheVariants as cause
use Rattle.ucd.specs.declared.fault.TableFault.{TableFault}
use Rattle.ucd.specs.declared.form.Form.{Form}
use Rattle.ucd.specs.declared.joining_line.Claim.{Claim}
use Rattle.ucd.specs.declared.joining_line.JoiningFile.{JoiningFile}
use Rattle.ucd.specs.declared.joining_line.JoiningFile.TheVariants.{ArabicShaping, UnicodeData}
use Rattle.ucd.specs.declared.joining_type.JoiningType.{JoiningType}

-- the result of parsing a line
abbrev pub Reading : Type 0
Reading = Result (Option Claim) Cause

-- the results of parsing the lines of a file, given the code point of the line before them if that line begins a range
abbrev pub readings_from : JoiningFile → Option ℕ → List (List ℕ) → List Reading
readings_from file before [] = []
readings_from file before (line ∷ lines) =
    claim_in file before line ∷ readings_from file (before_next (claim_in file before line)) lines

abbrev pub readings : JoiningFile → List (List ℕ) → List Reading
readings file lines = readings_from file None lines

-- whether a line has the code point in its range
abbrev pub claims : Claim → ℕ → Bool
claims claim c = nat_le claim.first c && nat_le c claim.last

-- the joining type that a line assigns to a code point, if any
abbrev pub type_from : Reading → ℕ → Option JoiningType
type_from (Ok (Some claim)) c = if claims claim c then Some claim.joining else None
type_from (Ok None) c = None
type_from (Err why) c = None

abbrev pub form_of : Option (Form × ℕ) → ℕ → ℕ → Option ℕ
form_of None point key = None
form_of (Some (form, letter)) point key = if form_key form letter == key then Some point else None

-- the code point that is a form of a letter by a line, if any, given the number of the form and letter
abbrev pub form_from : Reading → ℕ → Option ℕ
form_from (Ok (Some claim)) key = form_of claim.form claim.last key
form_from (Ok None) key = None
form_from (Err why) key = None

-- the value from the first line that has one
abbrev pub value_in : {V : Type 0} → (Reading → ℕ → Option V) → List Reading → ℕ → Option V
value_in by [] n = None
value_in by (r ∷ rs) n = option_or (by r n) (value_in by rs n)

-- two lines have a value for the same number
abbrev pub Share : {V : Type 0} → (Reading → ℕ → Option V) → Reading → Reading → Type 0
Share by r s = (n : ℕ) × IsSome (by r n) × IsSome (by s n)

-- the result of line k, or of a blank line past the end
abbrev pub reading_at : List Reading → ℕ → Reading
reading_at rs k = slice_index_or rs k (Ok None)

-- line k assigns a joining type to a code point, or a form to a letter, that an earlier line already does
abbrev pub NamesAgain : List Reading → ℕ → Type 0
NamesAgain rs k = (j : ℕ) × (j < k)
    × (Share type_from (reading_at rs j) (reading_at rs k) ⊎ Share form_from (reading_at rs j) (reading_at rs k))

-- line k is faulty for the given cause
abbrev pub HasFault : List Reading → ℕ → Cause → Type 0
HasFault rs k why = (reading_at rs k ≡ Err why) ⊎ ((why ≡ cause.NamedBefore) × NamesAgain rs k)

-- no line is faulty
abbrev pub IsGood : List Reading → Type 0
IsGood rs = (k : ℕ) (why : Cause) → k < length rs → ¬ (HasFault rs k why)

-- line k is the first faulty line
pub record IsFirstFault (rs : List Reading) (k : ℕ) (why : Cause) : Type 0 where
  pub in_range : k < length rs
  pub fault : HasFault rs k why
  pub earlier : (j : ℕ) (other : Cause) → j < k → ¬ (HasFault rs j other)

-- The fault is at the first faulty line of the file with this number, or is an allocation failure, whose file and line are 0.
abbrev pub IsFaultBy : ℕ → List Reading → ℕ → ℕ → Cause → Type 0
IsFaultBy number rs file line cause.Memory = (file ≡ 0) × (line ≡ 0)
IsFaultBy number rs file line why = (file ≡ number) × (0 < line) × IsFirstFault rs (line - 1) why

abbrev pub IsFaultIn : ℕ → List Reading → TableFault → Type 0
IsFaultIn number rs fault = IsFaultBy number rs fault.file fault.line fault.cause

-- the joining type that claims have for a code point, and the form that they have for the number of a form and letter
abbrev pub claimed_type : Claims → ℕ → Option JoiningType
claimed_type t c = slice_index_or t.types.items c None

abbrev pub claimed_form : Claims → ℕ → Option ℕ
claimed_form t key = get nat_cmp t.forms.map key

-- a line adds its values to those of the lines before it, which have none for the same number
pub record AddsValues {V : Type 0} (by : Reading → ℕ → Option V) (old new : ℕ → Option V) (r : Reading) : Type 0 where
  pub free : (n : ℕ) → IsSome (by r n) → old n ≡ None
  pub values : (n : ℕ) → new n ≡ option_or (old n) (by r n)

abbrev pub Adds : Claims → Claims → Reading → Type 0
Adds old new r =
    AddsValues type_from (claimed_type old) (claimed_type new) r × AddsValues form_from (claimed_form old) (claimed_form new) r

-- a line has a value for a number that already has one
abbrev pub Meets : {V : Type 0} → (Reading → ℕ → Option V) → (ℕ → Option V) → Reading → Type 0
Meets by old r = (n : ℕ) × IsSome (by r n) × IsSome (old n)

abbrev pub IsTaken : Claims → Reading → Type 0
IsTaken old r = Meets type_from (claimed_type old) r ⊎ Meets form_from (claimed_form old) r

-- no line is faulty, and the values are those of the lines
pub record Holds (rs : List Reading) (t : Claims) : Type 0 where
  pub good : IsGood rs
  pub types : (c : ℕ) → claimed_type t c ≡ value_in type_from rs c
  pub forms : (key : ℕ) → claimed_form t key ≡ value_in form_from rs key

-- `why` is the cause for which adding a line fails
abbrev pub IsLineCause : Reading → Claims → Cause → Type 0
IsLineCause r old why = (why ≡ cause.Memory) ⊎ (r ≡ Err why) ⊎ ((why ≡ cause.NamedBefore) × IsTaken old r)

-- the number of a file in a fault, after those of the seven table files
abbrev pub file_number : JoiningFile → ℕ
file_number ArabicShaping = 8
file_number UnicodeData = 9
