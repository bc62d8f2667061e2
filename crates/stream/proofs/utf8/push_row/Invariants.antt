use Rattle.std.proofs.Common.{◌≡◌, ◌+◌, ◌<◌, ◌≤◌, length, vec_len, vec_capacity}
use denote.Text.{Utf8}
use denote.Shadow.{shadow}
use Rattle.stream.specs.Utf8.{Moved}
use Rattle.stream.proofs.utf8.push_row.Given as goal

abbrev pub invariant-loop-c : goal.invariant-loop-c
invariant-loop-c l = record {
  utf8 : shadow (Utf8 l.rest);
  some : 0 < length l.rest;
  few : length l.rest ≤ length l.text;
  moved : Moved l.fn.characters.items l.text l.characters.items l.rest;
  capacity_left : vec_len l.characters + length l.rest ≤ vec_capacity l.characters;
  capacity : vec_capacity l.characters ≡ vec_capacity l.fn.characters;
}

abbrev pub decreases-loop-c : goal.decreases-loop-c
decreases-loop-c l = length l.rest
