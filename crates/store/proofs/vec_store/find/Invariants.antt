use Rattle.std.proofs.Common.{◌≡◌, ◌+◌, take, sum_by}
use Rattle.store.specs.Sums.{measure, AreSums}
use Rattle.store.proofs.vec_store.find.Given as goal

abbrev pub invariant-loop-index : goal.invariant-loop-index
invariant-loop-index g l = record {
  rest : sum_by (measure g.P.Measured l.unit) (take l.index l.items) + l.rest ≡ l.n;
  sums : AreSums g.P.Measured (take l.index l.items) l.before;
}
