use Rattle.std.proofs.Common.{◌+◌, length}
use Rattle.store.specs.Trees.{in_order}
use Rattle.store.proofs.joining.+join.Given as goal

abbrev pub decreases-join : goal.decreases-join
decreases-join g l = length (in_order l.left) + length (in_order l.right)
