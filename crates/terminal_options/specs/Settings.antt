-- The settings that options specify, and why options are refused.
use Rattle.std.specs.Prelude.{◌≡◌, ◌⊎◌, ◌||◌, Bool, true, false, List, [], ◌∷◌, map, find, codes, Option, Some, None, is_some, option_map, unwrap_or, if◌then◌else◌}
use Rattle.clap.specs.Words.{IsAmong, Row, Text, all_of, fault_of, first_of, kind_of}
use Rattle.clap.specs.Takes.{is_given}
use Rattle.terminal_options.specs.Choices.{direction_by, escapes_by, marks_by, tabs_by, version_by, width_by}
use Rattle.terminal_options.specs.Given.{Rows, is_set, rows_by, value_of}
use Rattle.terminal_options.specs.Program.{profile_flags, program}
use Rattle.terminal_options.specs.declared.choices.Prefix.{Prefix}
use Rattle.terminal_options.specs.declared.choices.Prefix.TheVariants.{Absent, Quotes, Pattern}
use Rattle.terminal_options.specs.declared.fault.OptionFault.{OptionFault}
use Rattle.terminal_options.specs.declared.fault.OptionFault.TheVariants as fault
use Rattle.terminal_options.specs.declared.options.Settings.{Settings}

-- the values of `--quotes` and `--prefix` that specify a prefix
abbrev pub options_for : Prefix → Bool × Option Text
options_for Absent = (false, None)
options_for Quotes = (true, None)
options_for (Pattern text) = (false, Some text.now)

abbrev pub has_prefix : List Row → Bool
has_prefix rows = is_given (codes "quotes") rows || is_some (first_of (codes "prefix") rows)

-- if the arguments have either option, both options in the environment are ignored
abbrev pub prefix_rows : Rows → List Row
prefix_rows rows = if has_prefix rows.line then rows.line else rows.environment

abbrev pub prefix_options : Rows → Bool × Option Text
prefix_options rows = (is_given (codes "quotes") (prefix_rows rows), first_of (codes "prefix") (prefix_rows rows))

-- the options of the strict command, and the first of them that is given
abbrev pub profile_options : List Text
profile_options = codes "script" ∷ profile_flags

abbrev pub profile_option : Rows → Option Text
profile_option rows = find (λ option. is_set option rows) profile_options

-- The settings have the values of the given options.
pub record AreSettings (rows : Rows) (settings : Settings) : Type 0 where
  pub own : profile_option rows ≡ None
  pub ucd : option_map (λ ucd. ucd.now) settings.ucd ≡ value_of (codes "ucd") rows
  pub unicode : version_by (value_of (codes "unicode") rows) ≡ Some settings.unicode
  pub width : width_by (value_of (codes "width") rows) ≡ Some settings.width
  pub tab_width : tabs_by (value_of (codes "tabs") rows) ≡ Some settings.tab_width
  pub marks : marks_by (value_of (codes "marks") rows) ≡ Some settings.marks
  pub direction : direction_by (value_of (codes "direction") rows) ≡ Some settings.direction
  pub escapes : escapes_by (value_of (codes "escapes") rows) ≡ Some settings.escapes
  pub prefix : options_for settings.prefix ≡ prefix_options rows
  pub whole_numbers : settings.whole_numbers ≡ is_set (codes "whole-numbers") rows
  pub show_spaces : settings.show_spaces ≡ is_set (codes "show-spaces") rows
  pub line_separators : settings.line_separators ≡ is_set (codes "line-separators") rows
  pub nomirror : settings.nomirror ≡ is_set (codes "nomirror") rows
  pub basedir : settings.basedir ≡ is_set (codes "basedir") rows
  pub nopad : settings.nopad ≡ is_set (codes "nopad") rows
  pub strict : settings.strict ≡ is_set (codes "strict") rows
  pub files : map (λ file. file.now) settings.files.items ≡ unwrap_or (all_of (codes "files") rows.line) []

-- `clap` refuses the words with this kind of error, or runs out of memory
abbrev pub IsRefusal : Bool → List Text → OptionFault → Type 0
IsRefusal files words (fault.Words error) = IsAmong (kind_of error) (fault_of (program files) words)
IsRefusal files words fault.NoMemory = Unit {0}
IsRefusal files words other = ⊥

-- The given options include one of the strict command, one with an invalid value, or both options for
-- prefixes, or memory has run out.
abbrev pub IsMeaningless : Rows → OptionFault → Type 0
IsMeaningless rows (fault.Words error) = ⊥
IsMeaningless rows (fault.Profile name) = profile_option rows ≡ Some name.now
IsMeaningless rows fault.Width = width_by (value_of (codes "width") rows) ≡ None
IsMeaningless rows fault.Tabs = tabs_by (value_of (codes "tabs") rows) ≡ None
IsMeaningless rows fault.Marks = marks_by (value_of (codes "marks") rows) ≡ None
IsMeaningless rows fault.Direction = direction_by (value_of (codes "direction") rows) ≡ None
IsMeaningless rows fault.Escapes = escapes_by (value_of (codes "escapes") rows) ≡ None
IsMeaningless rows fault.Unicode = version_by (value_of (codes "unicode") rows) ≡ None
IsMeaningless rows fault.Prefixes = ((prefix_options rows).0 ≡ true) × (is_some (prefix_options rows).1 ≡ true)
IsMeaningless rows fault.NoMemory = Unit {0}

abbrev pub IsFault : List Text → List Text → OptionFault → Type 0
IsFault environment line fault = IsRefusal false environment fault ⊎ IsRefusal true line fault ⊎ IsMeaningless (rows_by environment line) fault
