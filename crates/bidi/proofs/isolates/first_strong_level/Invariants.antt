use Rattle.std.proofs.Common.{◌+◌, ◌-◌, length}
use Rattle.bidi.proofs.JumpLemmas.{Walks}
use Rattle.bidi.proofs.isolates.first_strong_level.Given as goal

abbrev pub invariant-loop-at : goal.invariant-loop-at
invariant-loop-at l = Walks l.classes l.initiator l.at

abbrev pub decreases-loop-at : goal.decreases-loop-at
decreases-loop-at l = length l.classes + 1 - l.at
