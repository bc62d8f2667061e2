use Rattle.std.proofs.Common.{◌≡◌, ◌≤◌, ◌-◌, ◌++◌, length, drop, option_map, string_bytes}
use Rattle.std.specs.Str.{chars}
use Rattle.script_commands.specs.Commands.{unescaped}
use Rattle.script_commands.proofs.commands.unescape.Given as goal

-- the characters decoded so far, followed by the characters that the remaining text represents, are the
-- characters that the whole text represents
abbrev pub invariant-loop-at : goal.invariant-loop-at
invariant-loop-at l = record {
  within : l.at ≤ length l.text;
  whole : option_map (λ cs. chars (string_bytes l.inserted) ++ cs) (unescaped (drop l.at l.text)) ≡ unescaped l.text;
}

abbrev pub decreases-loop-at : goal.decreases-loop-at
decreases-loop-at l = length l.text - l.at
