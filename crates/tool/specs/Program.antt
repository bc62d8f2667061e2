-- The exit status of the program.
use Rattle.std.specs.Prelude.{ℕ}
use Rattle.command_line.specs.Status.{status_of_line}
use Rattle.tool.specs.declared.program.ProgramFault.{ProgramFault}
use Rattle.tool.specs.declared.program.ProgramFault.TheVariants.{Line}

abbrev pub status_of : ProgramFault → ℕ
status_of (Line fault) = status_of_line fault
status_of fault = 1
