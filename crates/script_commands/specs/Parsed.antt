-- The command that was parsed from a line. The bytes of an insert's text are passed separately.
use Rattle.std.specs.Prelude.{ℕ, List}
use Rattle.std.specs.Str.{chars}
use Rattle.script_commands.specs.Commands.{Command, Insert, Delete, SetWidth, Show, Ask}
use Rattle.script_commands.specs.declared.commands.Command as declared
use Rattle.script_commands.specs.declared.commands.Command.TheVariants as read

abbrev pub command_of : List ℕ → declared.Command → Command
command_of inserted (read.Insert pos) = Insert pos (chars inserted)
command_of inserted (read.Delete pos count) = Delete pos count
command_of inserted (read.SetWidth width) = SetWidth width
command_of inserted read.Show = Show
command_of inserted (read.Ask query) = Ask query
