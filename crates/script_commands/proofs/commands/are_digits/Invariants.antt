use Rattle.std.proofs.Common.{◌≡◌, take, true}
use Rattle.script_commands.specs.Commands.{are_digits}
use Rattle.script_commands.proofs.commands.are_digits.Given as goal

-- the characters so far are digits
abbrev pub invariant-loop-c : goal.invariant-loop-c
invariant-loop-c l = are_digits l.radix (take l.c-index l.text) ≡ true
