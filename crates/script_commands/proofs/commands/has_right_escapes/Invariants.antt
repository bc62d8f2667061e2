use Rattle.std.proofs.Common.{◌≡◌, ◌≤◌, ◌-◌, length, drop}
use Rattle.std.specs.Prelude.{is_some}
use Rattle.script_commands.specs.Commands.{unescaped}
use Rattle.script_commands.proofs.commands.has_right_escapes.Given as goal

-- the escapes of the whole text are valid if and only if those of the remaining text are valid
abbrev pub invariant-loop-at : goal.invariant-loop-at
invariant-loop-at l = record {
  within : l.at ≤ length l.text;
  rest : is_some (unescaped (drop l.at l.text)) ≡ is_some (unescaped l.text);
}

abbrev pub decreases-loop-at : goal.decreases-loop-at
decreases-loop-at l = length l.text - l.at
