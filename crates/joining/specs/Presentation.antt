-- The presentation forms of letters, which are those of joining types R and D. At odd levels, the character before another is on its
-- right, at even levels on its left.
use Rattle.std.specs.Prelude.{ℕ, ◌==◌, Bool, true, false, List, [], ◌∷◌, Option, None, if◌then◌else◌}
use Rattle.ucd_bidi.specs.declared.JoiningType.{JoiningType}
use Rattle.ucd_bidi.specs.declared.JoiningType.TheVariants.{DualJoining, RightJoining}
use Rattle.ucd.specs.Forms.{form_by}
use Rattle.joining.specs.Joiners.{is_rtl}
use Rattle.ucd.specs.declared.form.Form.{Form}
use Rattle.ucd.specs.declared.form.Form.TheVariants.{Final, Initial, Isolated, Medial}
use Rattle.joining.specs.declared.joiner.Joiner.{Joiner}
use Rattle.joining.specs.declared.presentation.Letter.{Letter}
use Rattle.joining.specs.declared.presentation.PresentationForms.{PresentationForms}

abbrev pub in_form : PresentationForms → Form → Option ℕ
in_form forms Isolated = forms.isolated_form
in_form forms Final = forms.final_form
in_form forms Initial = forms.initial_form
in_form forms Medial = forms.medial_form

abbrev pub no_forms : PresentationForms
no_forms = record { isolated_form = None; final_form = None; initial_form = None; medial_form = None }

-- the forms of a code point by the first letter of a list that is the same
abbrev pub forms_in : List Letter → ℕ → PresentationForms
forms_in [] c = no_forms
forms_in (listed ∷ others) c = if listed.letter == c then listed.forms else forms_in others c

abbrev pub is_letter : JoiningType → Bool
is_letter RightJoining = true
is_letter DualJoining = true
is_letter _ = false

-- the form of a character of a level, given whether it joins one before it and one after it
abbrev pub form_of : Option ℕ → Bool → Bool → Form
form_of level before after = if is_rtl level then form_by before after else form_by after before

-- the presentation form of a character, given those of its letter, and whether it joins one before it and one after it
abbrev pub presentation_form : PresentationForms → Joiner → Bool → Bool → Option ℕ
presentation_form forms c before after = if is_letter c.joining then in_form forms (form_of c.level before after) else None
