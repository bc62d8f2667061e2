use Rattle.std.proofs.Common.{◌≡◌, ◌++◌, take, vec_capacity}
use Rattle.stream.proofs.short.push_ascii.Given as goal

abbrev pub invariant-loop-byte : goal.invariant-loop-byte
invariant-loop-byte l = record {
  items : l.characters.items ≡ l.fn.characters.items ++ take l.byte-index l.bytes;
  capacity : vec_capacity l.characters ≡ vec_capacity l.fn.characters;
}
