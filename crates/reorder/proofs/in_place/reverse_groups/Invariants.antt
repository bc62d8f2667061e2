use Rattle.std.proofs.Common.{◌-◌, length}
use Rattle.reorder.proofs.ChunkLemmas.{Chunked}
use Rattle.reorder.proofs.in_place.reverse_groups.Given as goal

abbrev pub invariant-loop-start : goal.invariant-loop-start
invariant-loop-start g l = Chunked (g.C.Classes.all l.line) l.levels l.fn.items l.items l.start

abbrev pub decreases-loop-start : goal.decreases-loop-start
decreases-loop-start g l = length l.initial.items - l.start
