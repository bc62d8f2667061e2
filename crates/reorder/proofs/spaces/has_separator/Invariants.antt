use Rattle.std.proofs.Common.{◌≡◌, false}
use Rattle.reorder.specs.NoEnds.{AreNoEnds}
use Rattle.reorder.proofs.spaces.has_separator.Given as goal

abbrev pub invariant-loop-k : goal.invariant-loop-k
invariant-loop-k g l = l.any ≡ false → AreNoEnds (g.C.Classes.all l.line) l.start l.k
