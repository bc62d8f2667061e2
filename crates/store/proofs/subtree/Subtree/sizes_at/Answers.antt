use Rattle.std.proofs.Common.{◌≡◌, slice_get, option_map, Some, ap, sym, ◌∙◌, subst}
use Rattle.store.specs.Sums.{AreSums}
use Rattle.store.specs.Trees.{in_order}
use Rattle.store.proofs.SwapLemmas.{one_sum, range_at}
use Rattle.store.proofs.subtree.Subtree.sizes_at.Goals as goal

pub returns : goal.returns
returns g c =
    let item = c.in-Some.item.now in
    let at : slice_get (in_order c.args.self.now) c.args.index ≡ Some item = sym c.get.ensures ∙ ap (λ found. option_map (λ one. one.now) found) c.in-Some.is in
    subst (λ xs. AreSums g.P.Measured xs c.of.result) (sym (range_at (in_order c.args.self.now) c.args.index item at)) (one_sum g.P.Measured item c.of.result c.of.ensures)
