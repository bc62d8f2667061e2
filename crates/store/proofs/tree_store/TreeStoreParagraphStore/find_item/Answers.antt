use Rattle.std.proofs.Common.{ap, arith, sym}
use Rattle.store.specs.Trees.{height}
use Rattle.store.proofs.TreeLemmas.{nodes_low, low}
use Rattle.store.proofs.FindLemmas.{item_counts, item_found}
use Rattle.store.proofs.tree_store.TreeStoreParagraphStore.find_item.Goals as goal

pub returns-clause-few : goal.returns-clause-few
returns-clause-few g c =
    low c.args.self.now c.found.result.visits c.stays_balanced.ensures.balanced
    (omega (arith, nodes_low c.self.inside.root c.args.index, c.find_item.ensures.visits, ap height c.self.view_is, ap (λ f. f.visits) c.found.ensures))

pub returns-clause-found : goal.returns-clause-found
returns-clause-found g c = rw (c.found.ensures, sym c.self.view_is) (item_found g.P.Measured _ c.args.index c.find_item.result c.find_item.ensures.found)

pub returns-clause-counts : goal.returns-clause-counts
returns-clause-counts g c = rw (c.found.ensures, sym c.self.view_is) (item_counts g.P.Measured _ c.args.index c.find_item.result c.find_item.ensures.found)
