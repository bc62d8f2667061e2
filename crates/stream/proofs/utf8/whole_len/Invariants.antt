use Rattle.std.proofs.Common.{ℕ, ◌+◌, ◌<◌, length, get_or}
use Rattle.stream.proofs.utf8.whole_len.Given as goal

-- none of the bytes read so far, from the last one backwards, starts a multi-byte character
abbrev pub invariant-loop-after : goal.invariant-loop-after
invariant-loop-after l = (k : ℕ) → k < length l.bytes → length l.bytes < k + l.after → get_or l.bytes k 0 < 0xC0
