use Rattle.std.proofs.Common.{◌∙◌, below_more, sym, arith}
use Rattle.reorder.proofs.order.bound_len.Goals as goal

pub loop-len-preserved : goal.loop-len-preserved
loop-len-preserved g c = (omega arith, below_more _ _ c.loop-len.invariant.1 (sym c.is_bound.ensures ∙ c.if-is_bound.true))
