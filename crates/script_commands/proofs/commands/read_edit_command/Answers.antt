use Rattle.std.proofs.Common.{◌≡◌, string_bytes, ◌∙◌, rules}
use Rattle.script_commands.specs.Commands.{SetWidth, deletion_in, edit_command_in, number_in, parted}
use Rattle.std.specs.Prelude.{option_map}
use Rattle.script_commands.proofs.commands.read_edit_command.Goals as goal

pub returns-in-Some-after-2-clause-ok : goal.returns-in-Some-after-2-clause-ok
returns-in-Some-after-2-clause-ok c =
    let asked : deletion_in (parted c.in-Some-after-2.rest.now) ≡ edit_command_in c.args.line.now = search rules in
    c.deletion.ensures (string_bytes c.args.inserted.now) ∙ asked

pub returns-in-Some-after-3-clause-ok : goal.returns-in-Some-after-3-clause-ok
returns-in-Some-after-3-clause-ok c =
    let asked : option_map SetWidth (number_in c.in-Some-after-3.rest.now) ≡ edit_command_in c.args.line.now = search rules in
    c.width.ensures (string_bytes c.args.inserted.now) ∙ asked
