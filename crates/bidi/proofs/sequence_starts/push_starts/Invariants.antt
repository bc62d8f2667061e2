use Rattle.std.proofs.Common.{◌-◌, length}
use Rattle.ucd.specs.Within.{AreWithin}
use Rattle.bidi.proofs.SequenceStartLemmas.{Begins}
use Rattle.bidi.proofs.sequence_starts.push_starts.Given as goal

abbrev pub invariant-loop-start : goal.invariant-loop-start
invariant-loop-start l = Begins l.classes l.levels l.start l.continued l.starts.items × AreWithin (length l.levels) l.starts.items

abbrev pub decreases-loop-start : goal.decreases-loop-start
decreases-loop-start l = length l.levels - l.start
