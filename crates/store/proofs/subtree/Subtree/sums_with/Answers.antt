use Rattle.store.specs.Trees.{in_order}
use Rattle.store.proofs.SumsLemmas.{first_fit, all_fit, all_are}
use Rattle.store.proofs.subtree.Subtree.sums_with.Goals as goal

pub plus-requires : goal.plus-requires
plus-requires g c =
    first_fit g.P.Measured (in_order c.args.self.now) c.args.item.now (in_order c.args.right.now) c.sums.result c.of.result
    c.of.result c.of.result c.of.result c.sums.ensures.sums c.of.ensures c.requires

pub plus-requires-2 : goal.plus-requires-2
plus-requires-2 g c =
    all_fit g.P.Measured (in_order c.args.self.now) c.args.item.now (in_order c.args.right.now) c.sums.result c.of.result
    c.plus.result c.sums-2.result c.sums-2.result c.sums.ensures.sums c.of.ensures c.plus.ensures c.sums-2.ensures.sums c.requires

pub returns : goal.returns
returns g c =
    all_are g.P.Measured (in_order c.args.self.now) c.args.item.now (in_order c.args.right.now) c.sums.result c.of.result
    c.plus.result c.sums-2.result c.plus-2.result c.sums.ensures.sums c.of.ensures c.plus.ensures c.sums-2.ensures.sums c.plus-2.ensures
