-- The code points that lines of ArabicShaping.txt and UnicodeData.txt name are below 110000.
use Rattle.std.proofs.Common.{◌≡◌, ℕ, ◌<◌, ◌≤◌, Bool, true, false, List, Option, Some, None, Result, Ok, Err, refl, ap, arith}
use Rattle.std.specs.List.{before_first}
use Rattle.std.proofs.lemmas.Bool.Decides.{nat_tests}
use Rattle.std.proofs.lemmas.Grind.{common_steps}
use Rattle.ucd.specs.Forms.{code_point_in, form_in, form_tagged, form_with}
use Rattle.ucd.specs.Grammar.{code_point, is_delimiter, rest_after}
use Rattle.ucd.specs.JoiningLines.{IsReadWithin, claim_by, data_by, data_from, ends_range, field, first_by, joining_type_by_category, joining_type_named, shaping_by}
use Rattle.ucd.specs.declared.fault.Cause.{Cause}
use Rattle.ucd.specs.declared.form.Form.{Form}
use Rattle.ucd.specs.declared.joining_line.JoiningFile.{JoiningFile}
use Rattle.ucd.specs.declared.joining_line.JoiningFile.TheVariants.{ArabicShaping, UnicodeData}
use Rattle.ucd.specs.declared.joining_type.JoiningType.{JoiningType}

abbrev Below : Option ℕ → Type 0
Below o = (c : ℕ) → o ≡ Some c → c < 1114112

point_below : (digits : List ℕ) → Below (code_point digits)
point_below digits c is = grind (arith, nat_tests, common_steps, is)

point_in_below : (digits : Option (List ℕ)) → Below (code_point_in digits)
point_in_below None c is = cc
point_in_below (Some digits) c is = point_below digits c is

abbrev letter_of : Option (Form × ℕ) → ℕ
letter_of None = 0
letter_of (Some (form, letter)) = letter

form_below : (o : Option Form) (l : Option ℕ) → Below l → (form : Form) (letter : ℕ) → form_with o l ≡ Some (form, letter) → letter < 1114112
form_below None l below form letter is = cc
form_below (Some f) None below form letter is = cc
form_below (Some f) (Some c) below form letter is = let same : c ≡ letter = ap letter_of is in omega (arith, below c refl, same)

shaping_below : (o : Option ℕ) (joining : Option JoiningType) → Below o → IsReadWithin (shaping_by o joining)
shaping_below None joining below = tt
shaping_below (Some c) None below = tt
shaping_below (Some c) (Some joining) below = (omega arith, below c refl, λ form letter is. cc)

first_below : (before : Option ℕ) (ends : Bool) (c first : ℕ) → first_by before ends c ≡ Ok first → first ≤ c
first_below None false c first is = let same : c ≡ first = cc in omega (arith, same)
first_below None true c first is = cc
first_below (Some before) false c first is = cc
first_below (Some before) true c first is = grind (arith, nat_tests, common_steps, is)

data_below : (r : Result ℕ Cause) (c : ℕ) (name : List ℕ) (joining : JoiningType) (form : Option (Form × ℕ)) → c < 1114112
    → ((first : ℕ) → r ≡ Ok first → first ≤ c) → ((f : Form) (letter : ℕ) → form ≡ Some (f, letter) → letter < 1114112)
    → IsReadWithin (data_from r c name joining form)
data_below (Err why) c name joining form below from letters = tt
data_below (Ok first) c name joining form below from letters = (from first refl, below, letters)

by_below : (before o : Option ℕ) (name : List ℕ) (joining : JoiningType) (form : Option (Form × ℕ)) → Below o
    → ((f : Form) (letter : ℕ) → form ≡ Some (f, letter) → letter < 1114112) → IsReadWithin (data_by before o name joining form)
by_below before None name joining form below letters = tt
by_below before (Some c) name joining form below letters =
    data_below (first_by before (ends_range name) c) c name joining form (below c refl) (first_below before (ends_range name) c) letters

pub claim_below : (file : JoiningFile) (before : Option ℕ) (content : List ℕ) → IsReadWithin (claim_by file before content)
claim_below ArabicShaping before content =
    shaping_below (code_point (field content 0)) (joining_type_named (field content 2)) (point_below (field content 0))
claim_below UnicodeData before content =
    by_below before (code_point (field content 0)) (field content 1) (joining_type_by_category (field content 2)) (form_in (field content 5))
    (point_below (field content 0))
    (form_below (form_tagged (before_first (is_delimiter 32) (field content 5))) (code_point_in (rest_after 32 (field content 5)))
    (point_in_below (rest_after 32 (field content 5))))
