use Rattle.std.proofs.Common.{◌≡◌, ◌-◌, ◌<◌, ◌≤◌, ◌^◌, length, take, true}
use Rattle.std.specs.List.{list_all}
use Rattle.std.specs.Char.{is_ascii_hexdigit}
use Rattle.ucd.specs.Grammar.{hex_value}
use Rattle.ucd.proofs.plain.leading_code_point.Given as goal

-- the first `count` bytes are digits, and `number` is their value
abbrev pub invariant-loop-count : goal.invariant-loop-count
invariant-loop-count l = record {
  few : l.count ≤ l.most;
  most : (l.most ≤ 6) × (l.most ≤ length l.text);
  so_far : l.number ≡ hex_value (take l.count l.text);
  digits : list_all is_ascii_hexdigit (take l.count l.text) ≡ true;
  bound : l.number < 16 ^ l.count;
}

abbrev pub decreases-loop-count : goal.decreases-loop-count
decreases-loop-count l = l.most - l.count
