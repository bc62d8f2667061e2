-- Where the value of an option comes from.
use Rattle.std.specs.Prelude.{Bool, true, false, ◌||◌, List, Option, is_some, if◌then◌else◌}
use Rattle.clap.specs.Words.{Row, Text, first_of, matches_of}
use Rattle.clap.specs.Takes.{is_given}
use Rattle.terminal_options.specs.Program.{program}

-- the options parsed from `HORDGULI_OPTIONS`, and those parsed from the arguments
pub record Rows : Type 0 where
  pub environment : List Row
  pub line : List Row

abbrev pub rows_by : List Text → List Text → Rows
rows_by environment line = record {
  environment = matches_of (program false) environment;
  line = matches_of (program true) line;
}

-- the value of an option; the arguments override the environment
abbrev pub value_of : Text → Rows → Option Text
value_of name rows = if is_some (first_of name rows.line) then first_of name rows.line else first_of name rows.environment

-- whether an option without a value is set in either source
abbrev pub is_set : Text → Rows → Bool
is_set name rows = is_given name rows.line || is_given name rows.environment
