use Rattle.std.proofs.Common.{◌≡◌, string_bytes, ◌∙◌, rules}
use Rattle.std.specs.Prelude.{option_map}
use Rattle.script_commands.specs.Commands.{Ask, query_in, command_in}
use Rattle.script_commands.proofs.commands.read_command.Goals as goal

pub returns-in-Ok-None-clause-ok : goal.returns-in-Ok-None-clause-ok
returns-in-Ok-None-clause-ok c =
    let asked : option_map Ask (query_in c.args.line.now) ≡ command_in c.args.queries c.args.line.now = search rules in
    c.read_query.ensures (string_bytes c.read_edit_command.new.inserted) ∙ asked
