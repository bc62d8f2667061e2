use Rattle.std.proofs.Common.{length}
use Rattle.store.specs.Trees.{in_order}
use Rattle.store.proofs.subtree.Subtree.+exchange_all.Given as goal

abbrev pub decreases-exchange_all : goal.decreases-exchange_all
decreases-exchange_all g l = length (in_order l.self.now)
