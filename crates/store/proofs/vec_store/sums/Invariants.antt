use Rattle.std.proofs.Common.{take}
use Rattle.store.specs.Sums.{AreSums}
use Rattle.store.proofs.vec_store.sums.Given as goal

abbrev pub invariant-loop-item : goal.invariant-loop-item
invariant-loop-item g l = AreSums g.P.Measured (take l.item-index l.items) l.sums
