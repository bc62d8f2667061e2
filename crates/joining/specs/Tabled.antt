-- The joining types and presentation forms of tables that are read from Unicode's files.
use Rattle.std.specs.Prelude.{ℕ}
use Rattle.ucd.specs.JoiningTables.{joining_type_of, presentation_form_of}
use Rattle.ucd.specs.declared.form.Form.TheVariants.{Final, Initial, Isolated, Medial}
use Rattle.ucd.specs.declared.joining_tables.JoiningTables.{JoiningTables}
use Rattle.ucd.specs.declared.joining_type.JoiningType.{JoiningType}
use Rattle.ucd.specs.declared.joining_type.JoiningType.TheVariants.{DualJoining, JoinCausing, LeftJoining, NonJoining, RightJoining, Transparent}
use Rattle.ucd_bidi.specs.declared.JoiningType.{JoiningType as KitType}
use Rattle.ucd_bidi.specs.declared.JoiningType.TheVariants as kit
use Rattle.joining.specs.declared.presentation.PresentationForms.{PresentationForms}

-- the joining type of the kit's crate `ucd_bidi` with the same name
abbrev pub kit_type : JoiningType → KitType
kit_type RightJoining = kit.RightJoining
kit_type LeftJoining = kit.LeftJoining
kit_type DualJoining = kit.DualJoining
kit_type JoinCausing = kit.JoinCausing
kit_type NonJoining = kit.NonJoining
kit_type Transparent = kit.Transparent

abbrev pub type_of : JoiningTables → ℕ → KitType
type_of t c = kit_type (joining_type_of t c)

abbrev pub forms_of : JoiningTables → ℕ → PresentationForms
forms_of t c = record {
  isolated_form = presentation_form_of t Isolated c;
  final_form = presentation_form_of t Final c;
  initial_form = presentation_form_of t Initial c;
  medial_form = presentation_form_of t Medial c;
}
