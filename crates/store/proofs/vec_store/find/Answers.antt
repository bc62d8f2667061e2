use Rattle.std.proofs.Common.{◌+◌, sym, take, drop, arith}
use Rattle.std.proofs.lemmas.List.{length-take-le}
use Rattle.store.proofs.FindLemmas.{position_of}
use Rattle.store.proofs.ListLemmas.{at_place}
use Rattle.store.proofs.vec_store.find.Goals as goal

pub returns-then-rest-size-clause-found : goal.returns-then-rest-size-clause-found
returns-then-rest-size-clause-found g c =
    let item = c.index-items-index.result in
    let i = c.loop-index.index in
    position_of g.P.Measured c.args.unit (take i c.args.items.now) item (drop (i + 1) c.args.items.now) c.args.items.now c.args.n _
    (at_place c.args.items.now i item c.loop-index-test.true c.index-items-index.is)
    (sym (length-take-le i c.args.items.now (omega arith)))
    c.loop-index.invariant.rest
    (omega (arith, c.size_of-size.ensures))
    c.loop-index.invariant.sums
