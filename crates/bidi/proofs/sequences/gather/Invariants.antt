use Rattle.std.proofs.Common.{◌≡◌, ◌-◌, ◌<◌, ◌++◌, length}
use Rattle.ucd.specs.Within.{AreWithin}
use Rattle.bidi.specs.Runs.{sequence_at}
use Rattle.bidi.proofs.sequences.gather.Given as goal

abbrev pub invariant-loop-next : goal.invariant-loop-next
invariant-loop-next l = record {
  within : l.start < length l.levels;
  whole : l.places.items ++ sequence_at l.classes l.levels l.start ≡ sequence_at l.classes l.levels l.first;
  inside : AreWithin (length l.levels) l.places.items;
}

abbrev pub decreases-loop-next : goal.decreases-loop-next
decreases-loop-next l = length l.levels - l.start
