use Rattle.std.proofs.Common.{◌≡◌, ◌++◌, ℕ, take, drop, sum_by}
use Rattle.store.specs.Exchanging.{pairwise, raised}
use Rattle.store.proofs.vec_store.exchange_each.Given as goal

abbrev pub invariant-loop-index : goal.invariant-loop-index
invariant-loop-index g l =
    let by = g.E.Exchanger.kind l.initial.by in
    record {
      items : l.items ≡ take l.index (pairwise (g.E.Exchanger.exchanged by) l.initial.items l.initial.parts) ++ drop l.index l.initial.items;
      parts : l.parts ≡ take l.index (pairwise (g.E.Exchanger.handed_out by) l.initial.items l.initial.parts) ++ drop l.index l.initial.parts;
      same : g.E.Exchanger.kind l.by ≡ by;
      worked : g.E.Exchanger.worked l.by
          ≡ raised (g.E.Exchanger.worked l.initial.by) (sum_by (λ (n : ℕ). n) (take l.index (pairwise g.E.Exchanger.cost l.initial.items l.initial.parts)));
    }
