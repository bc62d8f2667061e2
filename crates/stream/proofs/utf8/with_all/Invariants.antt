use Rattle.std.proofs.Common.{◌≡◌, ◌+◌, ◌≤◌, length, vec_len, vec_capacity}
use denote.Text.{Utf8}
use denote.Shadow.{shadow}
use Rattle.stream.specs.Utf8.{Moved}
use Rattle.stream.proofs.utf8.with_all.Given as goal

abbrev pub invariant-loop-rest : goal.invariant-loop-rest
invariant-loop-rest l = record {
  utf8 : shadow (Utf8 l.rest);
  moved : Moved l.fn.characters.items l.text l.list.items l.rest;
  capacity_left : vec_len l.list + length l.rest ≤ vec_capacity l.list;
  capacity : vec_capacity l.list ≡ vec_capacity l.fn.characters;
}

abbrev pub decreases-loop-rest : goal.decreases-loop-rest
decreases-loop-rest l = length l.rest

abbrev pub invariant-loop-rest-2 : goal.invariant-loop-rest-2
invariant-loop-rest-2 l = record {
  utf8 : shadow (Utf8 l.rest);
  moved : Moved l.fn.characters.items l.text l.list.items l.rest;
  capacity_left : vec_len l.list + length l.rest ≤ vec_capacity l.list;
  capacity : vec_capacity l.list ≡ vec_capacity l.fn.characters;
}

abbrev pub decreases-loop-rest-2 : goal.decreases-loop-rest-2
decreases-loop-rest-2 l = length l.rest
