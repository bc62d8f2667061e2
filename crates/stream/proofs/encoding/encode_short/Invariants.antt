use Rattle.std.proofs.Common.{◌≡◌, ◌+◌, ◌-◌, ◌++◌, ◌≤◌, ◌*◌, length, take, encode_utf8_all}
use Rattle.stream.proofs.encoding.encode_short.Given as goal

-- the buffer holds its old bytes before the index, followed by the bytes of the characters encoded so far
abbrev pub invariant-loop-k : goal.invariant-loop-k
invariant-loop-k l = record {
  read : l.k ≤ length l.piece;
  within : l.len ≤ l.fn.at + 4 * l.k;
  bytes_are : take l.len l.buffer ≡ take l.fn.at l.fn.buffer ++ encode_utf8_all (take l.k l.piece);
}

abbrev pub decreases-loop-k : goal.decreases-loop-k
decreases-loop-k l = length l.piece - l.k
