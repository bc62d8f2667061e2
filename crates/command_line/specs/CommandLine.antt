-- The command line as it is described to `clap`, and the settings that its arguments specify.
use Rattle.std.specs.Prelude.{◌≡◌, ◌≤◌, ◌==◌, ◌||◌, ◌⊎◌, not, ℕ, pos, Bool, true, false, List, [], ◌∷◌, ◌++◌, length, map, fold, codes, Option, Some, None, is_some, option_map, unwrap_or, if◌then◌else◌}
use Rattle.std.specs.Str.{bytes_eq}
use Rattle.std.specs.Str.Parse.{IsNumeral, digits_value, without_leading_plus}
use Rattle.ucd.specs.declared.version.Version.{Version}
use Rattle.ucd.specs.declared.version.Version.TheVariants.{V15_0, V17_0}
use Rattle.bidi.specs.declared.base.Base.{Base}
use Rattle.bidi.specs.declared.base.Base.TheVariants as base
use Rattle.clap.specs.Words.{App, IsAmong, Row, Rule, Text, all_of, fault_of, first_of, found_of, kind_of, matches_of, new_app, new_rule, one_of, rows_of, with_rule}
use Rattle.clap.specs.Simple.{on_top}
use Rattle.clap.specs.Takes.{is_given}
use Rattle.clap.specs.declared.builder.action.ArgAction.TheVariants.{Append, Set, SetTrue}
use Rattle.clap.specs.declared.builder.value_parser.ValueParser.TheVariants.{Signed}
use Rattle.clap.specs.declared.parser.matches.ArgMatches.{ArgMatches}
use Rattle.command_line.specs.declared.options.LineFault.{LineFault}
use Rattle.command_line.specs.declared.options.LineFault.TheVariants.{Words, Directions, Unicode, ScriptFiles, Queries, NoMemory}
use Rattle.command_line.specs.declared.options.Settings.{Settings}

-- an option with a long name and no value
abbrev pub flag_rule : Text → Rule
flag_rule name = record (new_rule name) { long = Some name; action = Some SetTrue }

abbrev pub ucd_rule : Rule
ucd_rule = record (new_rule (codes "ucd")) { long = Some (codes "ucd"); value_names = 1; required = true; action = Some Set }

-- the option `width`: a number of columns from 1 to 65,535; the default is 80
abbrev pub width_rule : Rule
width_rule = record (new_rule (codes "width")) {
  long = Some (codes "width");
  value_names = 1;
  action = Some Set;
  parser = Some (Signed (pos 1) (pos 65535));
  defaults = codes "80" ∷ [];
}

-- the option `tabs`: a tab width from 1 to 255
abbrev pub tabs_rule : Rule
tabs_rule = record (new_rule (codes "tabs")) {
  long = Some (codes "tabs");
  value_names = 1;
  action = Some Set;
  parser = Some (Signed (pos 1) (pos 255));
}

-- the option `unicode`: the name of a version
abbrev pub unicode_rule : Rule
unicode_rule = record (new_rule (codes "unicode")) { long = Some (codes "unicode"); value_names = 1; action = Some Set }

-- the option `script`: the file of an edit script
abbrev pub script_rule : Rule
script_rule = record (new_rule (codes "script")) { long = Some (codes "script"); value_names = 1; action = Some Set }

-- the option `queries`: the script may contain queries
abbrev pub queries_rule : Rule
queries_rule = flag_rule (codes "queries")

-- any number of text files
abbrev pub files_rule : Rule
files_rule = record (new_rule (codes "files")) { value_names = 1; action = Some Append }

-- the layout options, and the print options
abbrev pub layout_rules : List Rule
layout_rules =
    ucd_rule ∷ width_rule ∷ tabs_rule ∷ unicode_rule
    ∷ map flag_rule (
    codes "rtl" ∷ codes "ltr" ∷ codes "wrtl" ∷ codes "wltr" ∷ codes "nobreak" ∷ codes "reordernsm" ∷ codes "whole-numbers"
    ∷ codes "reorder-clusters" ∷ codes "show-spaces" ∷ codes "line-separators" ∷ []
    )

abbrev pub print_rules : List Rule
print_rules =
    map flag_rule (
    codes "nopad" ∷ codes "nomirror" ∷ codes "novisual" ∷ codes "basedir" ∷ codes "ltov" ∷ codes "vtol" ∷ codes "levels" ∷ []
    )

-- the command line: the options above, any number of texts, and `--version`
abbrev pub start : App
start = on_top (λ s. record s { no_binary_name = true; has_version = true }) (new_app (codes "fribidi"))

unfoldable pub program : App
program = fold with_rule start (layout_rules ++ (print_rules ++ script_rule ∷ queries_rule ∷ files_rule ∷ []))

-- how base levels are found: as the only given option says or, without one, by the first strong character;
-- `None` if several options are given
abbrev pub base_by : Bool → Bool → Bool → Bool → Option Base
base_by true false false false = Some base.Rtl
base_by false true false false = Some base.Ltr
base_by false false true false = Some base.WeakRtl
base_by false false false true = Some base.WeakLtr
base_by false false false false = Some base.WeakLtr
base_by rtl ltr weak_rtl weak_ltr = None

abbrev pub base_of : List Row → Option Base
base_of rows =
    base_by (is_given (codes "rtl") rows) (is_given (codes "ltr") rows) (is_given (codes "wrtl") rows) (is_given (codes "wltr") rows)

-- the Unicode version with the given name, or `None` if there is none; 15.0 if the option is not given
abbrev pub version_named : Text → Option Version
version_named name = if bytes_eq name (codes "15.0") then Some V15_0 else if bytes_eq name (codes "17.0") then Some V17_0 else None

abbrev pub version_by : Option Text → Option Version
version_by None = Some V15_0
version_by (Some name) = version_named name

abbrev pub version_of : List Row → Option Version
version_of rows = version_by (first_of (codes "unicode") rows)

-- whether the number of texts is allowed: a script needs exactly one
abbrev pub fits_script : Bool → ℕ → Bool
fits_script has_script texts = not has_script || texts == 1

abbrev pub texts_of : List Row → List Text
texts_of rows = unwrap_or (all_of (codes "files") rows) []

abbrev pub script_fits : List Row → Bool
script_fits rows = fits_script (is_some (first_of (codes "script") rows)) (length (texts_of rows))

-- whether the use of queries is allowed: they need a script
abbrev pub fits_queries : Bool → Bool → Bool
fits_queries queries has_script = not queries || has_script

abbrev pub queries_fit : List Row → Bool
queries_fit rows = fits_queries (is_given (codes "queries") rows) (is_some (first_of (codes "script") rows))

-- the number that decimal digits denote
abbrev pub number_of : Text → ℕ
number_of text = digits_value 10 (without_leading_plus text)

-- the tab width, or 0 if the option is not given
abbrev pub tab_width_of : List Row → ℕ
tab_width_of rows = unwrap_or (option_map number_of (first_of (codes "tabs") rows)) 0

-- The settings have the values of the matched arguments, and the arguments have no fault.
pub record AreSettings (words : List Text) (settings : Settings) : Type 0 where
  pub taken : fault_of program words ≡ []
  pub ucd : first_of (codes "ucd") (matches_of program words) ≡ Some settings.ucd.now
  pub unicode : version_of (matches_of program words) ≡ Some settings.unicode
  pub base : base_of (matches_of program words) ≡ Some settings.options.base
  pub width : option_map number_of (first_of (codes "width") (matches_of program words)) ≡ Some settings.width
  pub wide : (1 ≤ settings.width) × (settings.width ≤ 65535)
  pub nobreak : settings.options.nobreak ≡ is_given (codes "nobreak") (matches_of program words)
  pub reordernsm : settings.options.reordernsm ≡ is_given (codes "reordernsm") (matches_of program words)
  pub whole_numbers : settings.options.whole_numbers ≡ is_given (codes "whole-numbers") (matches_of program words)
  pub reorder_clusters : settings.options.reorder_clusters ≡ is_given (codes "reorder-clusters") (matches_of program words)
  pub show_spaces : settings.options.show_spaces ≡ is_given (codes "show-spaces") (matches_of program words)
  pub line_separators : settings.line_separators ≡ is_given (codes "line-separators") (matches_of program words)
  pub tab_width : settings.options.tab_width ≡ tab_width_of (matches_of program words)
  pub stops : is_some (first_of (codes "tabs") (matches_of program words)) ≡ true → (1 ≤ settings.options.tab_width) × (settings.options.tab_width ≤ 255)
  pub novisual : settings.print.novisual ≡ is_given (codes "novisual") (matches_of program words)
  pub basedir : settings.print.basedir ≡ is_given (codes "basedir") (matches_of program words)
  pub ltov : settings.print.ltov ≡ is_given (codes "ltov") (matches_of program words)
  pub vtol : settings.print.vtol ≡ is_given (codes "vtol") (matches_of program words)
  pub levels : settings.print.levels ≡ is_given (codes "levels") (matches_of program words)
  pub nopad : settings.print.nopad ≡ is_given (codes "nopad") (matches_of program words)
  pub nomirror : settings.print.nomirror ≡ is_given (codes "nomirror") (matches_of program words)
  pub script : option_map (λ script. script.now) settings.script ≡ first_of (codes "script") (matches_of program words)
  pub queries : settings.queries ≡ is_given (codes "queries") (matches_of program words)
  pub files : map (λ file. file.now) settings.files.items ≡ texts_of (matches_of program words)
  pub one : script_fits (matches_of program words) ≡ true
  pub asked : queries_fit (matches_of program words) ≡ true

-- the value of an option is a decimal number from 1 to `most`
pub record HasNumber (name : Text) (most : ℕ) (rows : List Row) : Type 0 where
  pub text : Text
  pub first : first_of name rows ≡ Some text
  pub one : one_of name rows ≡ Some text
  pub allowed : IsNumeral 10 (without_leading_plus text) × (1 ≤ number_of text) × (number_of text ≤ most)

-- the option `tabs` is not given, or its value is a number from 1 to 255
abbrev pub HasTabs : List Row → Type 0
HasTabs rows = ((first_of (codes "tabs") rows ≡ None) × (one_of (codes "tabs") rows ≡ None)) ⊎ HasNumber (codes "tabs") 255 rows

-- The matches are those of arguments without a fault, so each argument that is required or has a default is
-- present, and numbers are in their ranges.
pub record AreMatches (words : List Text) (matches : ArgMatches) : Type 0 where
  pub taken : fault_of program words ≡ []
  pub rows : rows_of (found_of matches) ≡ matches_of program words
  pub ucd : is_some (first_of (codes "ucd") (rows_of (found_of matches))) ≡ true
  pub width : HasNumber (codes "width") 65535 (rows_of (found_of matches))
  pub tabs : HasTabs (rows_of (found_of matches))

-- Either `clap` refuses the arguments with this kind of error, or it accepts them and the fault is the first that applies.
-- The faults are, in order: several base directions, an unknown Unicode version, a script without exactly one
-- text, and queries without a script.
abbrev pub IsLineFault : List Text → LineFault → Type 0
IsLineFault words (Words error) = IsAmong (kind_of error) (fault_of program words)
IsLineFault words Directions = (fault_of program words ≡ []) × (base_of (matches_of program words) ≡ None)
IsLineFault words Unicode =
    (fault_of program words ≡ []) × (is_some (base_of (matches_of program words)) ≡ true) × (version_of (matches_of program words) ≡ None)
IsLineFault words ScriptFiles =
    (fault_of program words ≡ []) × (is_some (base_of (matches_of program words)) ≡ true) × (is_some (version_of (matches_of program words)) ≡ true)
    × (script_fits (matches_of program words) ≡ false)
IsLineFault words Queries =
    (fault_of program words ≡ []) × (is_some (base_of (matches_of program words)) ≡ true) × (is_some (version_of (matches_of program words)) ≡ true)
    × (script_fits (matches_of program words) ≡ true) × (queries_fit (matches_of program words) ≡ false)
IsLineFault words NoMemory = Unit {0}

-- an allocation failure is reported only if the accepted arguments have no other fault
abbrev pub HidesNothing : List Row → LineFault → Type 0
HidesNothing rows NoMemory = (is_some (base_of rows) ≡ true) × (is_some (version_of rows) ≡ true) × (script_fits rows ≡ true) × (queries_fit rows ≡ true)
HidesNothing rows fault = Unit {0}
