use Rattle.std.proofs.Common.{◌≡◌, drop, length, map}
use Rattle.std.specs.List.{range_with_len}
use Rattle.bidi.specs.LevelReasons.{resolved_in}
use Rattle.bidi.specs.Reasons.{sequence_of}
use Rattle.bidi.proofs.level_reason.resolved_in.Given as goal

abbrev pub invariant-loop-k : goal.invariant-loop-k
invariant-loop-k l = l.list.items ≡ map (resolved_in l.kept (map sequence_of (drop l.k l.sequences))) (range_with_len 0 (length l.kept))
