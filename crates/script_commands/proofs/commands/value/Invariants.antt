use Rattle.std.proofs.Common.{◌≡◌, ◌<◌, ◌^◌, take}
use Rattle.script_commands.specs.Commands.{number_by}
use Rattle.script_commands.proofs.commands.value.Given as goal

abbrev pub invariant-loop-c : goal.invariant-loop-c
invariant-loop-c l = record {
  so_far : l.number ≡ number_by l.radix (take l.c-index l.digits);
  bound : l.number < l.radix ^ l.c-index;
}
