use Rattle.std.proofs.Common.{◌≡◌, ◌+◌, take, drop, true}
use Rattle.std.specs.Char.{is_digit}
use Rattle.std.specs.List.{prefix_len}
use Rattle.script_commands.specs.Commands.{are_digits}
use Rattle.script_commands.proofs.commands.hex_len.Given as goal

abbrev pub invariant-loop-at : goal.invariant-loop-at
invariant-loop-at l = record {
  len : prefix_len (λ c. is_digit c 16) l.text ≡ l.at + prefix_len (λ c. is_digit c 16) (drop l.at l.text);
  digits : are_digits 16 (take l.at l.text) ≡ true;
}
