use Rattle.std.proofs.Common.{◌-◌, length}
use Rattle.reorder.proofs.ChunkLemmas.{MarksSoFar}
use Rattle.reorder.proofs.in_place.group_len.Given as goal

abbrev pub invariant-loop-len : goal.invariant-loop-len
invariant-loop-len g l = MarksSoFar (g.C.Classes.all l.line) l.levels l.start l.len

abbrev pub decreases-loop-len : goal.decreases-loop-len
decreases-loop-len g l = length l.levels - l.start - l.len
