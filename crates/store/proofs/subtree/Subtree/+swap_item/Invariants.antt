use Rattle.std.proofs.Common.{length}
use Rattle.store.specs.Trees.{in_order}
use Rattle.store.proofs.subtree.Subtree.+swap_item.Given as goal

abbrev pub decreases-swap_item : goal.decreases-swap_item
decreases-swap_item g l = length (in_order l.self.now)
