-- The exit status if the options are refused.
use Rattle.std.specs.Prelude.{ℕ}
use Rattle.clap.specs.Words.{kind_of}
use Rattle.clap.specs.declared.error.kind.ErrorKind.{ErrorKind}
use Rattle.clap.specs.declared.error.kind.ErrorKind.TheVariants.{DisplayHelp, DisplayVersion}
use Rattle.terminal_options.specs.declared.fault.OptionFault.{OptionFault}
use Rattle.terminal_options.specs.declared.fault.OptionFault.TheVariants.{Words, NoMemory}

-- a request for help or for the version has the exit status 0
abbrev pub status_of_words : ErrorKind → ℕ
status_of_words DisplayHelp = 0
status_of_words DisplayVersion = 0
status_of_words kind = 2

abbrev pub status_of : OptionFault → ℕ
status_of (Words error) = status_of_words (kind_of error)
status_of NoMemory = 1
status_of fault = 2
