use Rattle.std.proofs.Common.{◌≡◌, ◌≤◌, ◌-◌, length, take}
use Rattle.stream.proofs.encoding.put_ascii.Given as goal

abbrev pub invariant-loop-k : goal.invariant-loop-k
invariant-loop-k l = record {
  read : l.k ≤ length l.piece;
  size : length l.part ≡ length l.piece;
  bytes_are : take l.k l.part ≡ take l.k l.piece;
}

abbrev pub decreases-loop-k : goal.decreases-loop-k
decreases-loop-k l = length l.piece - l.k
