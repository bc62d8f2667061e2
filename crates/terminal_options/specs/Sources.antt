-- The rows of the options that were parsed from both sources. Only the code uses this definition.
use Rattle.clap.specs.Words.{found_of, rows_of}
use Rattle.terminal_options.specs.Given.{Rows}
use Rattle.terminal_options.specs.declared.given.Given.{Given}

abbrev pub rows_in : Given → Rows
rows_in given = record {
  environment = rows_of (found_of given.environment.now);
  line = rows_of (found_of given.line.now);
}
