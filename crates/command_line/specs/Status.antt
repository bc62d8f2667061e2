-- The exit status if the arguments are refused, and whether only the folder of the table files is missing.
use Rattle.std.specs.Prelude.{Bool, true, false, ℕ}
use Rattle.clap.specs.Words.{kind_of}
use Rattle.clap.specs.declared.error.kind.ErrorKind.{ErrorKind}
use Rattle.clap.specs.declared.error.kind.ErrorKind.TheVariants.{DisplayHelp, DisplayVersion, MissingRequiredArgument}
use Rattle.command_line.specs.declared.options.LineFault.{LineFault}
use Rattle.command_line.specs.declared.options.LineFault.TheVariants.{Words, NoMemory}

-- a request for help or for the version has the exit status 0
abbrev pub status_of_words : ErrorKind → ℕ
status_of_words DisplayHelp = 0
status_of_words DisplayVersion = 0
status_of_words kind = 2

abbrev pub status_of_line : LineFault → ℕ
status_of_line (Words error) = status_of_words (kind_of error)
status_of_line NoMemory = 1
status_of_line fault = 2

-- whether the arguments are refused because the folder, the only required argument, is missing
abbrev pub is_missing : ErrorKind → Bool
is_missing MissingRequiredArgument = true
is_missing kind = false

abbrev pub lacks_folder : LineFault → Bool
lacks_folder (Words error) = is_missing (kind_of error)
lacks_folder fault = false
