-- The joining types of code points and the presentation forms of letters, by ArabicShaping.txt and UnicodeData.txt.
use Rattle.std.specs.Prelude.{◌≡◌, ℕ, ◌⊎◌, List, nat_lt, Option, unwrap_or, if◌then◌else◌}
use Rattle.std.specs.BTreeMap.{is_at}
use Rattle.std.specs.Map.{lookup}
use Rattle.std.specs.Option.{option_or}
use Rattle.std.specs.Ordering.{nat_cmp}
use Rattle.ucd.specs.Brackets.{scalar_only}
use Rattle.ucd.specs.Forms.{form_key}
use Rattle.ucd.specs.Grammar.{lines_of}
use Rattle.ucd.specs.JoiningFiles.{IsFaultIn, IsGood, Reading, form_from, readings, type_from, value_in}
use Rattle.ucd.specs.JoiningPages.{type_at}
use Rattle.ucd.specs.declared.fault.TableFault.{TableFault}
use Rattle.ucd.specs.declared.form.Form.{Form}
use Rattle.ucd.specs.declared.joining_line.JoiningFile.TheVariants.{ArabicShaping, UnicodeData}
use Rattle.ucd.specs.declared.joining_tables.JoiningFiles.{JoiningFiles}
use Rattle.ucd.specs.declared.joining_tables.JoiningTables.{JoiningTables}
use Rattle.ucd.specs.declared.joining_type.JoiningType.{JoiningType}
use Rattle.ucd.specs.declared.joining_type.JoiningType.TheVariants.{NonJoining}

abbrev pub shaping_of : JoiningFiles → List Reading
shaping_of files = readings ArabicShaping (lines_of files.arabic_shaping.now)

abbrev pub data_of : JoiningFiles → List Reading
data_of files = readings UnicodeData (lines_of files.unicode_data.now)

-- the joining type by ArabicShaping.txt, or by the general category in UnicodeData.txt, or U for a code point that is in neither
abbrev pub joining_type_in : JoiningFiles → ℕ → JoiningType
joining_type_in files c = unwrap_or (option_or (value_in type_from (shaping_of files) c) (value_in type_from (data_of files) c)) NonJoining

-- the character whose line in UnicodeData.txt has a form of a letter as its decomposition
abbrev pub presentation_form_in : JoiningFiles → Form → ℕ → Option ℕ
presentation_form_in files form c = scalar_only (value_in form_from (data_of files) (form_key form c))

-- the same of tables
unfoldable pub joining_type_of : JoiningTables → ℕ → JoiningType
joining_type_of t c = if nat_lt c 1114112 then type_at t.index t.entries c else NonJoining

unfoldable pub presentation_form_of : JoiningTables → Form → ℕ → Option ℕ
presentation_form_of t form c = scalar_only (lookup (is_at (nat_cmp (form_key form c))) t.forms)

-- no line of the files is faulty, and the tables say what the files say
pub record AreJoiningTablesOf (files : JoiningFiles) (t : JoiningTables) : Type 0 where
  pub good_shaping : IsGood (shaping_of files)
  pub good_data : IsGood (data_of files)
  pub joining_type : (c : ℕ) → joining_type_of t c ≡ joining_type_in files c
  pub presentation_form : (form : Form) (c : ℕ) → presentation_form_of t form c ≡ presentation_form_in files form c

-- the first fault, in file order and then line order
abbrev pub IsJoiningFaultOf : JoiningFiles → TableFault → Type 0
IsJoiningFaultOf files fault = IsFaultIn 8 (shaping_of files) fault ⊎ (IsGood (shaping_of files) × IsFaultIn 9 (data_of files) fault)
