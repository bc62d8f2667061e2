use Rattle.std.proofs.Common.{◌≡◌, ◌<◌, ◌^◌, take, true}
use Rattle.std.specs.List.{list_all}
use Rattle.std.specs.Char.{is_ascii_hexdigit}
use Rattle.ucd.specs.Grammar.{hex_value}
use Rattle.ucd.proofs.grammar.hex_number.Given as goal

abbrev pub invariant-loop-digit : goal.invariant-loop-digit
invariant-loop-digit l = record {
  so_far : l.number ≡ hex_value (take l.digit-index l.digits);
  digits : list_all is_ascii_hexdigit (take l.digit-index l.digits) ≡ true;
  bound : l.number < 16 ^ l.digit-index;
}
