use Rattle.std.proofs.Common.{◌≡◌, ◌+◌, drop, map}
use Rattle.breaks.specs.Seen.{attached_len, character_in}
use Rattle.breaks.proofs.bases.attached_len.Given as goal

abbrev pub invariant-loop-k : goal.invariant-loop-k
invariant-loop-k l = attached_len (character_in l.fn.first) (map character_in l.rest) ≡ l.k + attached_len (character_in l.before) (map character_in (drop l.k l.rest))
