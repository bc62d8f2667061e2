use Rattle.std.proofs.Common.{◌≡◌, ◌+◌, ◌++◌, ◌≤◌, ◌*◌, take, encode_utf8_all}
use Rattle.stream.proofs.encoding.encode_each.Given as goal

-- the buffer holds its old bytes before the index, followed by the bytes of the characters encoded so far
abbrev pub invariant-loop-c : goal.invariant-loop-c
invariant-loop-c l = record {
  within : l.len ≤ l.fn.at + 4 * l.c-index;
  bytes_are : take l.len l.buffer ≡ take l.fn.at l.fn.buffer ++ encode_utf8_all (take l.c-index l.piece);
}
