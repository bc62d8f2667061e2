use Rattle.std.proofs.Common.{arith}
use Rattle.reorder.proofs.ClusterLemmas.{length-cluster_classes}
use Rattle.hordguli_c.proofs.row_calls.order_row.Goals as goal

pub visual_order-requires-clause-line : goal.visual_order-requires-clause-line
visual_order-requires-clause-line c = omega (arith, length-cluster_classes c.deref.result.now c.args.levels.now)
