use Rattle.reorder.proofs.InverseLemmas.{Placed}
use Rattle.reorder.proofs.order.invert.Given as goal

abbrev pub invariant-loop-k : goal.invariant-loop-k
invariant-loop-k l = Placed l.vtol l.ltov l.k
