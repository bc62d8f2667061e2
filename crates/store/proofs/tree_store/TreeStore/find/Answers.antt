use Rattle.std.proofs.Common.{ap, arith, sym}
use Rattle.store.specs.Trees.{height}
use Rattle.store.proofs.TreeLemmas.{nodes_low, low}
use Rattle.store.proofs.FindLemmas.{counts_at}
use Rattle.store.proofs.tree_store.TreeStore.find.Goals as goal

pub returns-clause-few : goal.returns-clause-few
returns-clause-few g c =
    low c.args.self.now c.found.result.visits c.stays_balanced.ensures.balanced
    (omega (arith, nodes_low c.self.inside.root c.find.result.index, c.find.ensures.visits, ap height c.self.view_is, ap (λ f. f.visits) c.found.ensures))

pub returns-clause-found : goal.returns-clause-found
returns-clause-found g c =
    rw (c.found.ensures, sym c.self.view_is) c.find.ensures.found.finds

pub returns-clause-counts : goal.returns-clause-counts
returns-clause-counts g c =
    rw (c.found.ensures, sym c.self.view_is) (counts_at g.P.Measured c.args.unit _ c.args.n c.find.result c.find.ensures.found)
