use Rattle.std.proofs.Common.{arith, subst}
use Rattle.store.specs.Trees.{IsBalanced, height}
use Rattle.store.proofs.TreeLemmas.{fewest_in, fewest_reached, low}
use Rattle.store.proofs.tree_store.TreeStore.stays_balanced.Goals as goal

pub returns-clause-items : goal.returns-clause-items
returns-clause-items g c = fewest_in c.args.self.now (subst IsBalanced c.self.view_is c.height-height.ensures.balanced)

pub returns-clause-height : goal.returns-clause-height
returns-clause-height g c =
    low c.args.self.now (height c.args.self.now) (subst IsBalanced c.self.view_is c.height-height.ensures.balanced) (omega arith)

pub returns-clause-fewest : goal.returns-clause-fewest
returns-clause-fewest g c = λ x h. fewest_reached x h
